-- What contracts see of a debugger.
use Rattle.std.specs.Prelude.{ℕ, List, [], ◌∷◌, ◌++◌}
use Rattle.rv_image_types.specs.declared.images.ImageParts.{ImageParts}
use Rattle.cl_machine.specs.declared.steps.Step.{Step}
use Rattle.cl_debug.specs.declared.breaks.Break.{Break}

-- an image, the steps of a run of it, a place among them, and the breaks in the order in which they were set
pub record Debugging : Type 0 where
  pub image : ImageParts
  pub steps : List Step
  pub place : ℕ
  pub breaks : List Break

-- the same at another place
abbrev pub at_place : Debugging → ℕ → Debugging
at_place debugging n = record debugging { place = n }

-- the same with one break more
abbrev pub with_break : Debugging → Break → Debugging
with_break debugging added = record debugging { breaks = debugging.breaks ++ added ∷ [] }
