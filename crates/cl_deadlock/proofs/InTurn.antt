-- Each rank of a list, read in turn.
use Rattle.std.specs.Prelude.{ℕ, zero, suc, ◌≡◌, ◌<◌, ◌≤◌, ◌+◌, ◌==◌, ◌||◌, ◌⊎◌, IsTrue, Bool, true, false}
use Rattle.std.specs.Prelude.{List, [], ◌∷◌, length, get_or, take}
use Rattle.std.proofs.Common.{refl, sym, ap, subst, ◌∙◌, inl, inr, arith}
use Rattle.std.proofs.lemmas.Bool.{eqb-true}
use Rattle.std.proofs.lemmas.List.Folds.{list_any_more}
use Rattle.cl_deadlock_laws.specs.Stuck.{is_among}

either : (a b : Bool) → (a || b) ≡ true → (a ≡ true) ⊎ (b ≡ true)
either true b its = inl refl
either false b its = inr its

-- what holds of each of the first i ranks, and of the next, holds of one more
pub one_more : (P : ℕ → Type 0) (ranks : List ℕ) (i : ℕ) → i < length ranks
    → ((r : ℕ) → IsTrue (is_among (take i ranks) r) → P r) → P (get_or ranks i 0)
    → (r : ℕ) → IsTrue (is_among (take (i + 1) ranks) r) → P r
one_more P ranks i inside each next r among =
    elim (either (is_among (take i ranks) r) (get_or ranks i 0 == r)
    (sym (list_any_more (λ k. k == r) ranks i 0 inside) ∙ among)) [
      | inl before ↦ each r before
      | inr here ↦ subst P (eqb-true (get_or ranks i 0) r here) next
    ]

-- what holds of each that was read holds of each, once all were
pub all_of : (P : ℕ → Type 0) (ranks : List ℕ) (i : ℕ) → length ranks ≤ i
    → ((r : ℕ) → IsTrue (is_among (take i ranks) r) → P r) → (r : ℕ) → IsTrue (is_among ranks r) → P r
all_of P ranks i past each r among =
    each r (subst (λ xs. IsTrue (is_among xs r)) (sym (take_all i ranks past)) among)
  where
    take_all : (n : ℕ) (xs : List ℕ) → length xs ≤ n → take n xs ≡ xs
    take_all zero [] le = refl
    take_all (suc n) [] le = refl
    take_all zero (x ∷ xs) le = absurd (omega (arith, le))
    take_all (suc n) (x ∷ xs) le = ap (λ ys. x ∷ ys) (take_all n xs (omega (arith, le)))
