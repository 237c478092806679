use Rattle.std.specs.List.{All}
use Rattle.std.proofs.Common.{◌∙◌, ◌++◌, ap, subst, sym}
use Rattle.rvmc_draw.specs.declared.drawing.Arrow.{Arrow}
use Rattle.rvmc_draw.specs.declared.drawing.Mark.{Mark}
use Rattle.rvmc_svg.specs.Shown.{HasTitle}
use Rattle.rvmc_svg.specs.Titles.{arrow_title}
use Rattle.rvmc_svg.proofs.Shown.{page_shown}
use Rattle.rvmc_svg.proofs.page.page.Goals as goal

pub returns : goal.returns
returns c =
    let marks = subst (λ xs. All (λ (m : Mark). HasTitle c.as_slice-3.result.now m.tip.items) xs)
    c.as_slice.ensures.value
    (subst (λ t. All (λ (m : Mark). HasTitle t m.tip.items) c.as_slice.result.now)
    (sym c.as_slice-3.ensures.value) c.in_ok-marks.ensures) in
    let arrows = subst (λ xs. All (λ (a : Arrow). HasTitle c.in_ok-text.text.items (arrow_title a)) xs)
    c.as_slice-arrows.ensures.value c.in_ok-text.ensures in
    page_shown c.args.drawing.now c.extend_from_slice-2.new.self.items c.in_ok-text.text.items
    c.as_slice-3.result.now c.as_slice-4.result.now
    (c.in_ok-extend_from_slice-2.ensures.items
    ∙ ap (λ l. l ++ c.as_slice-4.result.now) c.in_ok-extend_from_slice.ensures.items) marks arrows
