use Rattle.std.proofs.Common.{arith, subst}
use Rattle.rvmc_draw.specs.declared.drawing.Mark.{Mark}
use Rattle.rvmc_svg.specs.Adding.{Adds}
use Rattle.rvmc_svg.specs.Shown.{HasTitle}
use Rattle.rvmc_svg.proofs.Shown.{all_taken, marks_more}
use Rattle.rvmc_svg.proofs.marks.all_marks.Goals as goal

-- one mark more
pub loop-mark-preserved : goal.loop-mark-preserved
loop-mark-preserved c =
    marks_more c.args.marks.now c.loop-mark.mark-index c.mark-item.result c.loop-mark.text.items
    c.put_titled.new.text.items (omega (arith, c.loop-mark-test.true)) c.mark-item.is c.loop-mark.invariant
    (subst (λ tip. Adds c.loop-mark.text.items tip c.put_titled.new.text.items) c.as_slice-tip.ensures.value
    c.in_ok-put_titled.ensures)

-- all
pub returns : goal.returns
returns c =
    all_taken (λ (m : Mark). HasTitle c.loop-mark.text.items m.tip.items) c.args.marks.now c.loop-mark.mark-index
    (omega (arith, c.loop-mark-test.false)) c.loop-mark.invariant
