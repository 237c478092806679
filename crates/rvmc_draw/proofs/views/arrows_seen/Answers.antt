use Rattle.std.proofs.Common.{[], arith}
use Rattle.rvmc_draw.specs.Views.{arrow_in_view}
use Rattle.rvmc_draw.proofs.Taken.{taken_all, taken_more}
use Rattle.rvmc_draw.proofs.views.arrows_seen.Goals as goal

pub loop-arrow-preserved : goal.loop-arrow-preserved
loop-arrow-preserved c =
    taken_more (arrow_in_view c.args.view) c.args.arrows.now c.loop-arrow.arrow-index _ [] c.loop-arrow.seen.items
    c.put_seen.new.seen.items (omega (arith, c.loop-arrow-test.true)) c.loop-arrow.invariant
    c.in_ok-put_seen.ensures

pub returns : goal.returns
returns c =
    taken_all (arrow_in_view c.args.view) c.args.arrows.now c.loop-arrow.arrow-index [] c.loop-arrow.seen.items
    (omega (arith, c.loop-arrow-test.false)) c.loop-arrow.invariant
