use Rattle.std.proofs.Common.{arith}
use Rattle.rvmc_page.specs.Told.{arrow_text}
use Rattle.rvmc_draw.proofs.Taken.{taken_all, taken_more}
use Rattle.rvmc_page.proofs.told.put_arrows.Goals as goal

pub loop-arrow-preserved : goal.loop-arrow-preserved
loop-arrow-preserved c =
    taken_more arrow_text c.args.arrows.now c.loop-arrow.arrow-index _ c.args.text.now.items
    c.loop-arrow.text.items c.put_arrow.new.text.items (omega (arith, c.loop-arrow-test.true)) c.loop-arrow.invariant
    c.in_ok-put_arrow.ensures

pub returns : goal.returns
returns c =
    taken_all arrow_text c.args.arrows.now c.loop-arrow.arrow-index c.args.text.now.items
    c.loop-arrow.text.items (omega (arith, c.loop-arrow-test.false)) c.loop-arrow.invariant
