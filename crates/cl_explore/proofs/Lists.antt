-- Lists that grow at their end.
use Rattle.std.specs.Prelude.{ℕ, zero, suc, ◌<◌, ◌≡◌, ◌⊎◌, List, [], ◌∷◌, ◌++◌, length, get_or, slice_get, slice_set, Some}
use Rattle.std.proofs.Common.{refl, sym, ap, ◌∙◌, subst, arith, inl, inr}
use Rattle.std.proofs.lemmas.Bool.{cases_eq, cases_lt}
use Rattle.std.proofs.lemmas.Option.{slice_get_past}
use Rattle.cl_machine.proofs.Lists.{get-set_other, get-set_same, same_by_index}

-- what stands at a place inside
pub at_inside : {A : Type 0} (xs : List A) (i : ℕ) → i < length xs → (x : A) × (slice_get xs i ≡ Some x)
at_inside [] i low = absurd (omega (arith, low))
at_inside (x ∷ xs) zero low = (x, refl)
at_inside (x ∷ xs) (suc i) low = at_inside xs i (omega (arith, low))

pub stays_at : {A : Type 0} (xs : List A) (y : A) (i : ℕ) (x : A) → slice_get xs i ≡ Some x
    → slice_get (xs ++ y ∷ []) i ≡ Some x
stays_at [] y i x at = absurd (cc)
stays_at (z ∷ xs) y zero x at = at
stays_at (z ∷ xs) y (suc i) x at = stays_at xs y i x at

pub at_last : {A : Type 0} (xs : List A) (y : A) → slice_get (xs ++ y ∷ []) (length xs) ≡ Some y
at_last [] y = refl
at_last (z ∷ xs) y = at_last xs y

-- it was there, or it is the new one
pub was_or_new : {A : Type 0} (xs : List A) (y : A) (i : ℕ) (x : A) → slice_get (xs ++ y ∷ []) i ≡ Some x
    → (slice_get xs i ≡ Some x) ⊎ ((i ≡ length xs) × (Some y ≡ Some x))
was_or_new [] y zero x at = inr (refl, at)
was_or_new [] y (suc i) x at = absurd (cc)
was_or_new (z ∷ xs) y zero x at = inl at
was_or_new (z ∷ xs) y (suc i) x at = elim (was_or_new xs y i x at) [
  | inl there ↦ inl there
  | inr new ↦ inr (ap suc new.0, new.1)
]

-- what is read at a place inside is what stands there
pub read_of : {A : Type 0} (xs : List A) (n : ℕ) (x : A) → n < length xs → x ≡ get_or xs n x → slice_get xs n ≡ Some x
read_of [] n x low is = absurd (omega (arith, low))
read_of (y ∷ xs) zero x low is = ap (λ z. Some z) (sym is)
read_of (y ∷ xs) (suc n) x low is = read_of xs n x (omega (arith, low)) is

-- a list that is another but for one place is that one, with what stands there
pub set_is : {A : Type 0} (xs ys : List A) (n : ℕ) (x : A) → n < length xs
    → ((r : ℕ) → (r ≡ n → ⊥) → slice_get xs r ≡ slice_get ys r) → slice_get ys n ≡ Some x → slice_set xs n x ≡ ys
set_is xs ys n x inside each at =
    let was = at_inside xs n inside in
    same_by_index (slice_set xs n x) ys (λ i. elim (cases_eq n i) [
      | inl same ↦
          subst (λ j. slice_get (slice_set xs n x) j ≡ slice_get ys j) same (get-set_same xs n was.0 x was.1 ∙ sym at)
      | inr other ↦ get-set_other xs n i x other ∙ each i (λ e. other (sym e))
    ])

-- lists of the same length are the same outside, so they are at a place if they are wherever something stands
pub inside_or_past : {A B : Type 0} (xs : List A) (ys zs : List B) (r : ℕ) → length ys ≡ length xs → length zs ≡ length xs
    → ((x : A) → slice_get xs r ≡ Some x → slice_get ys r ≡ slice_get zs r) → slice_get ys r ≡ slice_get zs r
inside_or_past xs ys zs r many count each = elim (cases_lt r (length xs)) [
  | inl low ↦ let x = at_inside xs r low in each x.0 x.1
  | inr past ↦
      slice_get_past ys r (omega (arith, past, many)) ∙ sym (slice_get_past zs r (omega (arith, past, count)))
]
