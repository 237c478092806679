-- A list of which no two things are the same, all of which another list has, is no longer than that.
use Rattle.std.proofs.Common.{◌≡◌, ◌∙◌, ◌≤◌, suc, List, [], ◌∷◌, length, refl, sym, ap, subst, arith, inl, inr}
use Rattle.std.specs.Prelude.{◌⊎◌}

module _ {A : Type 0} where
  -- the list has it
  abbrev pub Has : A → List A → Type 0
  Has x [] = ⊥
  Has x (y ∷ ys) = (x ≡ y) ⊎ Has x ys

  -- no two are the same
  abbrev pub AreDistinct : List A → Type 0
  AreDistinct [] = Unit {0}
  AreDistinct (x ∷ xs) = (Has x xs → ⊥) × AreDistinct xs

  -- the list without one that it has
  abbrev without : (x : A) (ys : List A) → Has x ys → List A
  without x [] has = []
  without x (y ∷ ys) (inl is) = ys
  without x (y ∷ ys) (inr has) = y ∷ without x ys has

  one_less : (x : A) (ys : List A) (has : Has x ys) → suc (length (without x ys has)) ≡ length ys
  one_less x [] has = absurd has
  one_less x (y ∷ ys) (inl is) = refl
  one_less x (y ∷ ys) (inr has) = ap suc (one_less x ys has)

  others_stay : (x z : A) (ys : List A) (has : Has x ys) → (z ≡ x → ⊥) → Has z ys → Has z (without x ys has)
  others_stay x z [] has other there = absurd has
  others_stay x z (y ∷ ys) (inl is) other (inl same) = absurd (other (same ∙ sym is))
  others_stay x z (y ∷ ys) (inl is) other (inr there) = there
  others_stay x z (y ∷ ys) (inr has) other (inl same) = inl same
  others_stay x z (y ∷ ys) (inr has) other (inr there) = inr (others_stay x z ys has other there)

  pub no_longer : (xs ys : List A) → AreDistinct xs → ((z : A) → Has z xs → Has z ys) → length xs ≤ length ys
  no_longer [] ys apart all = omega arith
  no_longer (x ∷ xs) ys apart all =
      let has = all x (inl refl) in
      let rest = no_longer xs (without x ys has) apart.1
      (λ z there. others_stay x z ys has (λ same. apart.0 (subst (λ w. Has w xs) same there)) (all z (inr there))) in
      let less = one_less x ys has in
      omega (arith, rest, less)
