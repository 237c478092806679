-- Why there is no record of an end.
use Rattle.std.specs.Prelude.{ℕ, ◌≡◌, Bool, List, Option, Some, None}
use Rattle.rv_image_types.specs.declared.images.ImageParts.{ImageParts}
use Rattle.rvmc_explore.specs.Recorded.{RecordsEnd}
use Rattle.rvmc_answers.specs.Below.{ExploreRefusal}
use Rattle.rvmc_answers.specs.Below.explored as refusal

-- it was asked for, and the list of what is told has fewer
abbrev pub IsNoEnd : ImageParts → List ℕ → Bool → (states turns : ℕ) → Option ℕ → ExploreRefusal → Type 0
IsNoEnd image order buffered states turns asked (refusal.NoOutcome number) =
    (asked ≡ Some number) × RecordsEnd image order buffered states turns number None
IsNoEnd image order buffered states turns asked other = ⊥
