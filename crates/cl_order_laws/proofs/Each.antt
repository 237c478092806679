-- Lists whose elements correspond.
use Rattle.std.proofs.Common.{◌≡◌, ℕ, zero, suc, inl, inr, List, [], ◌∷◌, length, Some, refl, sym, ap, ◌∙◌, subst}
use Rattle.std.specs.List.{slice_get, slice_set}
use Rattle.std.proofs.lemmas.Bool.{cases_eq}
use Rattle.std.proofs.lemmas.Option.{same_Some}
use Rattle.mp_wait_laws.proofs.Sets.{get-set_other}
use Rattle.cl_order_laws.specs.Alike.{AreEach}

pub set_length : {A : Type 0} (xs : List A) (i : ℕ) (x : A) → length (slice_set xs i x) ≡ length xs
set_length [] i x = refl
set_length (y ∷ xs) zero x = refl
set_length (y ∷ xs) (suc i) x = ap suc (set_length xs i x)

pub set_here : {A : Type 0} (xs : List A) (i : ℕ) (x y : A) → slice_get xs i ≡ Some y → slice_get (slice_set xs i x) i ≡ Some x
set_here [] i x y h = absurd (cc)
set_here (z ∷ xs) zero x y h = refl
set_here (z ∷ xs) (suc i) x y h = set_here xs i x y h

-- what was there, where something is now
pub was_there : {A : Type 0} (xs : List A) (i : ℕ) (x z : A) → slice_get (slice_set xs i x) i ≡ Some z
    → (x ≡ z) × ((y : A) × (slice_get xs i ≡ Some y))
was_there [] i x z h = absurd (cc)
was_there (y ∷ xs) zero x z h = (same_Some x z h, (y, refl))
was_there (y ∷ xs) (suc i) x z h = was_there xs i x z h

pub set_set : {A : Type 0} (xs : List A) (i : ℕ) (x y : A) → slice_set (slice_set xs i x) i y ≡ slice_set xs i y
set_set [] i x y = refl
set_set (z ∷ xs) zero x y = refl
set_set (z ∷ xs) (suc i) x y = ap (λ l. z ∷ l) (set_set xs i x y)

pub each_set : {A : Type 0} (R : A → A → Type 0) (xs ys : List A) (i : ℕ) (x y : A) → AreEach R xs ys → R x y
    → AreEach R (slice_set xs i x) (slice_set ys i y)
each_set R xs ys i x y are r = record {
  many = set_length ys i y ∙ are.many ∙ sym (set_length xs i x);
  each = λ j z here. elim (cases_eq i j) [
    | inl same ↦
        let w = was_there xs i x z (subst (λ k. slice_get (slice_set xs i x) k ≡ Some z) (sym same) here) in
        let v = are.each i w.1.0 w.1.1 in (
          y,
          subst (λ k. slice_get (slice_set ys i y) k ≡ Some y) same (set_here ys i y v.0 v.1),
          subst (λ q. R q y) w.0 r,
        )
    | inr other ↦
        let v = are.each j z (sym (get-set_other xs i j x other) ∙ here) in
        (v.0, get-set_other ys i j y other ∙ v.1, v.2)
  ];
}
