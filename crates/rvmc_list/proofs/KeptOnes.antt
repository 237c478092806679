-- Texts of which one is put in place of another.
use Rattle.std.specs.Prelude.{ℕ, zero, suc, ◌≡◌, ◌⊎◌, List, [], ◌∷◌, ◌++◌, slice_get, slice_set, Option, Some, None}
use Rattle.std.proofs.Common.{inl, inr, subst}
use Rattle.std.proofs.lemmas.Option.{same_Some}
use Rattle.rv_image_types.specs.declared.images.Symbol.{Symbol}
use Rattle.rvmc_list.specs.Keeping.{IsKept}
use Rattle.rvmc_list.specs.declared.kept.Kept.{Kept}

-- what stands in a list with another element is that one, or stood there
set_or_stood : {X : Type 0} (xs : List X) (place k : ℕ) (y x : X) → slice_get (slice_set xs place y) k ≡ Some x
    → (y ≡ x) ⊎ (slice_get xs k ≡ Some x)
set_or_stood [] place k y x h = inr h
set_or_stood (z ∷ xs) zero zero y x h = inl (same_Some y x h)
set_or_stood (z ∷ xs) zero (suc k) y x h = inr h
set_or_stood (z ∷ xs) (suc place) zero y x h = inr h
set_or_stood (z ∷ xs) (suc place) (suc k) y x h = set_or_stood xs place k y x h

pub kept_with : (symbols : List Symbol) (xs : List (Option Kept)) (place : ℕ) (one : Kept)
    → ((k : ℕ) (kept : Kept) → slice_get xs k ≡ Some (Some kept) → IsKept symbols kept) → IsKept symbols one
    → (k : ℕ) (kept : Kept) → slice_get (slice_set xs place (Some one)) k ≡ Some (Some kept) → IsKept symbols kept
kept_with symbols xs place one are is k kept h =
    elim (set_or_stood xs place k (Some one) (Some kept) h) [
      | inl same ↦ subst (λ (x : Kept). IsKept symbols x) (same_Some one kept same) is
      | inr there ↦ are k kept there
    ]

-- there are none among places that are all empty
none_pushed : (xs : List (Option Kept)) (k : ℕ) (kept : Kept) → slice_get (xs ++ None ∷ []) k ≡ Some (Some kept)
    → slice_get xs k ≡ Some (Some kept)
none_pushed [] zero kept h = absurd (let e = same_Some None (Some kept) h in (cc))
none_pushed [] (suc k) kept h = h
none_pushed (x ∷ xs) zero kept h = h
none_pushed (x ∷ xs) (suc k) kept h = none_pushed xs k kept h

pub none_more : (xs : List (Option Kept)) → ((k : ℕ) (kept : Kept) → slice_get xs k ≡ Some (Some kept) → ⊥)
    → (k : ℕ) (kept : Kept) → slice_get (xs ++ None ∷ []) k ≡ Some (Some kept) → ⊥
none_more xs none k kept h = none k kept (none_pushed xs k kept h)
