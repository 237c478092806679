use Rattle.std.specs.Prelude.{take}
use Rattle.std.specs.List.{All}
use Rattle.rvmc_draw.specs.declared.drawing.Mark.{Mark}
use Rattle.rvmc_svg.specs.Shown.{HasTitle}
use Rattle.rvmc_svg.proofs.marks.all_marks.Given as goal

-- those so far
abbrev pub invariant-loop-mark : goal.invariant-loop-mark
invariant-loop-mark l = All (λ (m : Mark). HasTitle l.text.items m.tip.items) (take l.mark-index l.marks)
