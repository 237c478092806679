use Rattle.std.proofs.Common.{rules, ◌≡◌}
use Rattle.rvmc_protocol.specs.Replies.Parts.{part_of}
use Rattle.rvmc_gdb.proofs.session.Session.names_part.Goals as goal

pub returns : goal.returns
returns c =
    let part : c.put_part.new.text.items ≡ part_of c.in-Ok.list.items c.args.from c.args.count = search rules in
    (c.in-Ok.list.items, c.in-Ok.ensures, part)
