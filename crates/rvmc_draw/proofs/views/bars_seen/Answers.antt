use Rattle.std.proofs.Common.{[], arith}
use Rattle.rvmc_draw.specs.Views.{bar_in_view}
use Rattle.rvmc_draw.proofs.Taken.{taken_all, taken_more}
use Rattle.rvmc_draw.proofs.views.bars_seen.Goals as goal

pub loop-bar-preserved : goal.loop-bar-preserved
loop-bar-preserved c =
    taken_more (bar_in_view c.args.view) c.args.bars.now c.loop-bar.bar-index _ [] c.loop-bar.seen.items
    c.put_bar_seen.new.seen.items (omega (arith, c.loop-bar-test.true)) c.loop-bar.invariant
    c.in_ok-put_bar_seen.ensures

pub returns : goal.returns
returns c =
    taken_all (bar_in_view c.args.view) c.args.bars.now c.loop-bar.bar-index [] c.loop-bar.seen.items
    (omega (arith, c.loop-bar-test.false)) c.loop-bar.invariant
