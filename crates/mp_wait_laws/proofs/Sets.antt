-- A list with one element changed.
use Rattle.std.specs.Prelude.{ℕ, zero, suc, List, [], ◌∷◌, ◌≡◌, ◌≢◌}
use Rattle.std.specs.List.{slice_get, slice_set}
use Rattle.std.proofs.Common.{refl, ap}

pub get-set_other : {X : Type 0} (xs : List X) (k i : ℕ) (y : X) → k ≢ i
    → slice_get (slice_set xs k y) i ≡ slice_get xs i
get-set_other [] k i y h = refl
get-set_other (z ∷ xs) zero zero y h = absurd (h refl)
get-set_other (z ∷ xs) zero (suc i) y h = refl
get-set_other (z ∷ xs) (suc k) zero y h = refl
get-set_other (z ∷ xs) (suc k) (suc i) y h = get-set_other xs k i y (λ e. h (ap suc e))
