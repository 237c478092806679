-- The page of a record.
use Rattle.std.specs.Prelude.{ℕ, ◌≡◌, List, map, Option, Some, None}
use Rattle.std.specs.List.{All}
use Rattle.rv_image_types.specs.declared.images.ImageParts.{ImageParts}
use Rattle.cl_machine.specs.declared.steps.Step.{Step}
use Rattle.rvmc_changes.specs.Changes.{Difference}
use Rattle.rvmc_changes.specs.Walks.{IsWalk, seen_at_start}
use Rattle.rvmc_draw.specs.declared.views.View.{View}
use Rattle.rvmc_picture.specs.Pictures.{HasTooMany, IsDrawing}
use Rattle.rvmc_svg.specs.Safe.{IsAllowed}
use Rattle.rvmc_svg.specs.Shown.{IsShown}
use Rattle.rvmc_page.specs.Pages.{page_of}
use Rattle.rvmc_page.specs.Texts.{Source, source_of}
use Rattle.rvmc_page.specs.declared.pages.Page.{Page}
use Rattle.rvmc_page.specs.declared.pages.Shown.{Shown}

-- the drawing of the steps in view, and its picture as `draw` gives it; none where they have more marks than are drawn
abbrev pub IsShownOf : ImageParts → List Step → View → Option Shown → Type 0
IsShownOf image steps view None = (count : ℕ) × HasTooMany image steps view count
IsShownOf image steps view (Some shown) =
    IsDrawing image steps view shown.drawing × All IsAllowed shown.picture.items
    × IsShown shown.drawing shown.picture.items

-- what a page shows of the steps in view, and of the sources
pub record IsPageOf (image : ImageParts) (steps : List Step) (view : View) (sources : List Source) (page : Page)
    (changes : List Difference) : Type 0 where
  pub from : page.from ≡ view.from
  pub walk : IsWalk image steps view.from view.to (seen_at_start page.start.items) changes
  pub texts : map source_of page.texts.now ≡ sources
  pub shown : IsShownOf image steps view page.shown

-- the text of such a page
pub record IsPage (image : ImageParts) (steps : List Step) (view : View) (sources : List Source) (text : List ℕ)
    : Type 0 where
  pub page : Page
  pub changes : List Difference
  pub is : IsPageOf image steps view sources page changes
  pub text_is : text ≡ page_of image page changes
