-- No byte of a guest ends the script or the markup.
use Rattle.std.specs.Prelude.{ℕ, ◌≡◌, ◌⊎◌, true, List}
use Rattle.std.specs.List.{All}
use Rattle.rv_image_types.specs.declared.images.ImageParts.{ImageParts}
use Rattle.rvmc_changes.specs.Changes.{Difference}
use Rattle.rvmc_page.specs.Escaped.{is_unescaped}
use Rattle.rvmc_page.specs.Pages.{data_of}
use Rattle.rvmc_page.specs.Steps.{changes_text}
use Rattle.rvmc_page.specs.declared.pages.Page.{Page}
use Rattle.rvmc_page.specs.declared.pages.Part.{Part}

-- no `<`, `>`, `&`, no quote: a plain byte, the end of a line, or the sign before an escape
abbrev pub IsPlain : ℕ → Type 0
IsPlain byte = (is_unescaped byte ≡ true) ⊎ (byte ≡ 10) ⊎ (byte ≡ 92)

-- so is each byte of each part of the data, whatever the image, the machine, the sources and the drawing hold; and each byte
-- of the changes of steps
pub record PlainLaw : Type 0 where
  pub parts : (image : ImageParts) (page : Page) (part : Part) → All IsPlain (data_of image page part)
  pub steps : (changes : List Difference) → All IsPlain (changes_text changes)
