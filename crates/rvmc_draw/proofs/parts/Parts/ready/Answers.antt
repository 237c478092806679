use Rattle.std.proofs.Common.{◌∙◌, ◌≤◌, ap, arith, length, sym}
use Rattle.rvmc_draw.specs.Parts.{box_place}
use Rattle.rvmc_draw.proofs.NeverTaken.{none_made}
use Rattle.rvmc_draw.proofs.parts.Parts.ready.Goals as goal

pub returns-else-place-len-clause-untaken : goal.returns-else-place-len-clause-untaken
returns-else-place-len-clause-untaken c =
    let past : length c.args.self.now.cells.items ≤ box_place (c.in-Some.link, c.in-Some.part) =
    omega (arith, c.if-place-len.false, c.len.ensures, c.box_place-place.ensures) in
    none_made c.args.self.now.untaken.items c.args.self.now.cells.items c.args.deed.now.ready
    (c.in-Some.link, c.in-Some.part) c.args.deed.now.spot c.in-Some.is past
