use Rattle.std.proofs.Common.{arith}
use Rattle.rvmc_svg.proofs.ArrowTitles.{all_added, one_added}
use Rattle.rvmc_svg.proofs.arrows.put_arrows.Goals as goal

pub loop-arrow-preserved : goal.loop-arrow-preserved
loop-arrow-preserved c =
    one_added c.args.could c.args.arrows.now c.loop-arrow.arrow-index _ c.args.text.now.items c.loop-arrow.text.items
    c.put_arrow.new.text.items (omega (arith, c.loop-arrow-test.true)) c.loop-arrow.invariant
    c.in_ok-put_arrow.ensures

pub returns : goal.returns
returns c =
    all_added c.args.could c.args.arrows.now c.loop-arrow.arrow-index c.args.text.now.items c.loop-arrow.text.items
    (omega (arith, c.loop-arrow-test.false)) c.loop-arrow.invariant
