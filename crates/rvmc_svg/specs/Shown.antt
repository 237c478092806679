-- What the text of a picture tells of its drawing, wherever on the page it stands.
use Rattle.std.specs.Prelude.{ℕ, ◌≡◌, List, ◌++◌, codes}
use Rattle.std.specs.List.{All, flat_map}
use Rattle.rvmc_draw.specs.declared.drawing.Arrow.{Arrow}
use Rattle.rvmc_draw.specs.declared.drawing.Drawing.{Drawing}
use Rattle.rvmc_draw.specs.declared.drawing.Mark.{Mark}
use Rattle.rvmc_svg.specs.Escaped.{escaped}
use Rattle.rvmc_svg.specs.Titles.{arrow_title}

-- these bytes stand behind the tag of a title, each of them escaped (W3C, Scalable Vector Graphics 2, 5.8)
pub record HasTitle (text title : List ℕ) : Type 0 where
  pub front : List ℕ
  pub back : List ℕ
  pub are : text ≡ front ++ (codes "<title>" ++ (flat_map escaped title ++ back))

-- each mark has its title, which is what the drawing tells of it; and so has each arrow, whose title names the steps at its
-- two ends, and what it carries
pub record IsShown (drawing : Drawing) (text : List ℕ) : Type 0 where
  pub marks : All (λ (m : Mark). HasTitle text m.tip.items) drawing.marks.items
  pub arrows : All (λ (a : Arrow). HasTitle text (arrow_title a)) drawing.arrows.items
