-- Laws of the places of a record.
use Rattle.std.specs.Prelude.{ℕ, ◌≡◌, ◌≤◌, List, [], ◌∷◌, length, slice_get, Some, true}
use Rattle.rv_image_types.specs.declared.images.ImageParts.{ImageParts}
use Rattle.cl_machine.specs.declared.steps.Step.{Step}
use Rattle.cl_debug.specs.declared.breaks.Break.{Break}
use Rattle.cl_debug.specs.Debugging.{Debugging}
use Rattle.cl_debug.specs.Moves.{MovedBack, MovedOn, RanOn}
use Rattle.cl_debug.specs.Places.{IsBreakPlace, IsStop}

-- a run from a place leads to one place alone
abbrev pub OneStopLaw : Type 0
OneStopLaw =
    (image : ImageParts) (steps : List Step) (breaks : List Break) (from one other : ℕ)
    → IsStop image steps breaks from one → IsStop image steps breaks from other → one ≡ other

-- a run stops at the break of the hart whose step comes next, and of no other: of two ranks whose harts stand at one pc,
-- a break of the one doesn't stop the other
abbrev pub OwnBreakLaw : Type 0
OwnBreakLaw =
    (image : ImageParts) (steps : List Step) (added : Break) (n : ℕ) (step : Step)
    → IsBreakPlace image steps (added ∷ []) n → slice_get steps n ≡ Some step
    → (step.rank ≡ added.rank) × (step.hart ≡ added.hart)

-- a step, and then one back, lead to where it was, with the same breaks
abbrev pub BackLaw : Type 0
BackLaw = (old mid new : Debugging) → MovedOn old true mid → MovedBack mid true new → new ≡ old

-- a run goes on and not back, and keeps the record and the breaks
pub record GoesOn (old new : Debugging) : Type 0 where
  pub onward : old.place ≤ new.place
  pub image : new.image ≡ old.image
  pub steps : new.steps ≡ old.steps
  pub breaks : new.breaks ≡ old.breaks

abbrev pub GoesOnLaw : Type 0
GoesOnLaw = (old new : Debugging) → old.place ≤ length old.steps → RanOn old new → GoesOn old new
