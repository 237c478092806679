use Rattle.std.proofs.Common.{arith}
use Rattle.rvmc_page.specs.Pages.{part_lines}
use Rattle.rvmc_draw.proofs.Taken.{taken_all, taken_more}
use Rattle.rvmc_page.proofs.pages.put_these.Goals as goal

pub loop-part-preserved : goal.loop-part-preserved
loop-part-preserved c =
    taken_more (part_lines c.args.image.now c.args.page.now) c.args.parts.now c.loop-part.part-index _ c.args.text.now.items
    c.loop-part.text.items c.put_part.new.text.items (omega (arith, c.loop-part-test.true)) c.loop-part.invariant
    c.in_ok-put_part.ensures

pub returns : goal.returns
returns c =
    taken_all (part_lines c.args.image.now c.args.page.now) c.args.parts.now c.loop-part.part-index c.args.text.now.items
    c.loop-part.text.items (omega (arith, c.loop-part-test.false)) c.loop-part.invariant
