use Rattle.rv_asm_tokens.proofs.NameBytes.{listed}
use Rattle.rv_asm_tokens.proofs.scanning.may_stand_in_name.Goals as goal

pub returns : goal.returns
returns c = rw c.from.ensures (listed c.args.b c.ranges.b.fits)
