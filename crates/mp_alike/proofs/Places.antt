-- Elements of lists by their places.
use Rattle.std.proofs.Common.{◌≡◌, ℕ, zero, suc, ◌<◌, ◌≤◌, ◌⊎◌, inl, inr, Bool, true, false, cond, List, [], ◌∷◌, length, get_or, Some, None, refl, sym, ap, ◌∙◌, arith}
use Rattle.std.specs.Prelude.{◌||◌, filter, find, replicate}
use Rattle.std.specs.List.{list_any, slice_get, slice_set}
use Rattle.std.proofs.lemmas.Option.{same_Some}

pub there_is : {A : Type 0} (xs : List A) (i : ℕ) → i < length xs → (x : A) × (slice_get xs i ≡ Some x)
there_is [] i below = absurd (let b = below in omega (arith, b))
there_is (x ∷ xs) zero below = (x, refl)
there_is (x ∷ xs) (suc i) below = there_is xs i (let b = below in omega (arith, b))

pub set_here : {A : Type 0} (xs : List A) (i : ℕ) (x y : A) → slice_get xs i ≡ Some x
    → slice_get (slice_set xs i y) i ≡ Some y
set_here [] i x y here = absurd (cc)
set_here (z ∷ xs) zero x y here = refl
set_here (z ∷ xs) (suc i) x y here = set_here xs i x y here

pub set_beside : {A : Type 0} (xs : List A) (i k : ℕ) (y : A) → (i ≡ k → ⊥)
    → slice_get (slice_set xs i y) k ≡ slice_get xs k
set_beside [] i k y other = refl
set_beside (z ∷ xs) zero zero y other = absurd (other refl)
set_beside (z ∷ xs) zero (suc k) y other = refl
set_beside (z ∷ xs) (suc i) zero y other = refl
set_beside (z ∷ xs) (suc i) (suc k) y other = set_beside xs i k y (λ e. other (ap suc e))

pub past_end : {A : Type 0} (xs : List A) (i : ℕ) (d : A) → length xs ≤ i → get_or xs i d ≡ d
past_end [] i d past = refl
past_end (x ∷ xs) zero d past = absurd (let p = past in omega (arith, p))
past_end (x ∷ xs) (suc i) d past = past_end xs i d (let p = past in omega (arith, p))

pub replicated : {A : Type 0} (n p : ℕ) (x y : A) → slice_get (replicate n x) p ≡ Some y → y ≡ x
replicated zero p x y at = absurd (cc)
replicated (suc n) zero x y at = sym (same_Some x y at)
replicated (suc n) (suc p) x y at = replicated n p x y at

-- ---- an element that passes a test, or none

pub record Passes {A : Type 0} (f : A → Bool) (xs : List A) : Type 0 where
  pub place : ℕ
  pub item : A
  pub here : slice_get xs place ≡ Some item
  pub passes : f item ≡ true

abbrev pub NonePasses : {A : Type 0} → (A → Bool) → List A → Type 0
NonePasses {A} f xs = (i : ℕ) (x : A) → slice_get xs i ≡ Some x → f x ≡ false

pub some_or_none : {A : Type 0} (f : A → Bool) (xs : List A) → Passes f xs ⊎ NonePasses f xs
some_or_none f [] = inr (λ i x here. absurd (cc))
some_or_none {A} f (x ∷ xs) = go (f x) refl (some_or_none f xs)
  where
    go : (t : Bool) → f x ≡ t → Passes f xs ⊎ NonePasses f xs → Passes f (x ∷ xs) ⊎ NonePasses f (x ∷ xs)
    go true e rest = inl (record { place = 0; item = x; here = refl; passes = e })
    go false e (inl p) = inl (record { place = suc p.place; item = p.item; here = p.here; passes = p.passes })
    go false e (inr none) = inr all
      where
        all : (i : ℕ) (y : A) → slice_get (x ∷ xs) i ≡ Some y → f y ≡ false
        all zero y here = ap f (sym (same_Some x y here)) ∙ e
        all (suc i) y here = none i y here

pub none_filtered : {A : Type 0} (f : A → Bool) (xs : List A) → NonePasses f xs → filter f xs ≡ []
none_filtered f [] none = refl
none_filtered f (x ∷ xs) none =
    ap (λ t. cond t (x ∷ filter f xs) (filter f xs)) (none 0 x refl)
    ∙ none_filtered f xs (λ i y here. none (suc i) y here)

pub none_any : {A : Type 0} (f : A → Bool) (xs : List A) → NonePasses f xs → list_any f xs ≡ false
none_any f [] none = refl
none_any f (x ∷ xs) none =
    ap (λ t. t || list_any f xs) (none 0 x refl) ∙ none_any f xs (λ i y here. none (suc i) y here)

pub none_found : {A : Type 0} (f : A → Bool) (xs : List A) → NonePasses f xs → find f xs ≡ None
none_found f [] none = refl
none_found f (x ∷ xs) none =
    ap (λ t. cond t (Some x) (find f xs)) (none 0 x refl) ∙ none_found f xs (λ i y here. none (suc i) y here)
