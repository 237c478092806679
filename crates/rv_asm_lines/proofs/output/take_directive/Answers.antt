use Rattle.rv_asm_lines.proofs.output.take_directive.Goals as goal

pub returns-in-Comm : goal.returns-in-Comm
returns-in-Comm c = rw (c.in-Comm.is, ← c.as_slice-in-Comm.ensures) (c.take_members.ensures c.args.place)

pub returns-in-Link : goal.returns-in-Link
returns-in-Link c = rw c.in-Link.is (c.take_link.ensures c.args.place)
