-- Lists that are compared place by place.
use Rattle.std.specs.Prelude.{ℕ, zero, suc, ◌+◌, ◌<◌, ◌≡◌, List, [], ◌∷◌, get_or, length, map, slice_get, Some}
use Rattle.std.proofs.Common.{refl, sym, subst, arith, inl, inr}
use Rattle.std.proofs.lemmas.Bool.{cases_eq}
use Rattle.std.proofs.lemmas.Option.{same_Some}

-- what is read at a place inside, whatever stands for one outside
pub read_at : {A : Type 0} (xs : List A) (n : ℕ) (x d : A) → slice_get xs n ≡ Some x → get_or xs n d ≡ x
read_at [] n x d at = absurd (cc)
read_at (y ∷ xs) zero x d at = same_Some y x at
read_at (y ∷ xs) (suc n) x d at = read_at xs n x d at

-- what stands at each place is made of what stands there in the other list
pub mapped_by : {A B : Type 0} (f : A → B) (xs : List A) (ys : List B) → length ys ≡ length xs
    → ((i : ℕ) (x : A) (y : B) → slice_get xs i ≡ Some x → slice_get ys i ≡ Some y → y ≡ f x) → ys ≡ map f xs
mapped_by f [] [] many each = refl
mapped_by f [] (y ∷ ys) many each = absurd (omega (arith, many))
mapped_by f (x ∷ xs) [] many each = absurd (omega (arith, many))
mapped_by f (x ∷ xs) (y ∷ ys) many each =
    let head : y ≡ f x = each 0 x y refl refl in
    let tail : ys ≡ map f xs = mapped_by f xs ys (omega (arith, many)) (λ i u v at there. each (suc i) u v at there) in
    λ k. head k ∷ tail k

-- what holds of each place below one, and there, holds of each place up to it
pub below_more : {A B : Type 0} (P : A → B → Type 0) (xs : List A) (ys : List B) (n : ℕ)
    → ((i : ℕ) → i < n → (x : A) (y : B) → slice_get xs i ≡ Some x → slice_get ys i ≡ Some y → P x y)
    → ((x : A) (y : B) → slice_get xs n ≡ Some x → slice_get ys n ≡ Some y → P x y)
    → (i : ℕ) → i < n + 1 → (x : A) (y : B) → slice_get xs i ≡ Some x → slice_get ys i ≡ Some y → P x y
below_more P xs ys n before here i low x y at there = elim (cases_eq n i) [
  | inl same ↦
      here x y (subst (λ k. slice_get xs k ≡ Some x) (sym same) at) (subst (λ k. slice_get ys k ≡ Some y) (sym same) there)
  | inr other ↦ before i (omega (arith, low, other)) x y at there
]
