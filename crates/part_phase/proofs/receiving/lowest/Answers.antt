-- A taken box is passed over.
use Rattle.std.proofs.Common.{◌∙◌, ap, sym}
use Rattle.std.specs.Prelude.{not}
use Rattle.part_phase.specs.Receiving.{is_left}
use Rattle.part_phase.proofs.Lowest.{skips}
use Rattle.part_phase.proofs.receiving.lowest.Goals as goal

pub loop-i-preserved : goal.loop-i-preserved
loop-i-preserved c =
    let taken = ap not (sym c.is_marked.ensures ∙ c.if-not-is_marked.false) in
    c.loop-i.invariant ∙ skips (is_left c.args.taken.now) c.loop-i.i c.args.boxes c.loop-i-test.true taken
