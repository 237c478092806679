-- Lists of keys, of marks and of boxes.
use Rattle.std.proofs.Common.{◌≡◌, ◌≢◌, ◌⊎◌, ℕ, zero, suc, ◌<◌, List, [], ◌∷◌, ◌++◌, length, set, get_or, replicate}
use Rattle.std.proofs.Common.{Bool, false, Some, refl, sym, ap, ◌∙◌, subst, ⊎_elim, inl, inr, arith}
use Rattle.std.specs.Prelude.{slice_get, nat_le}
use Rattle.std.proofs.lemmas.Option.{slice_get_read}
use Rattle.part_channel.specs.Sending.{modified, none_marked}

module _ {A : Type 0} where
  pub some_same : (x y : A) → Some x ≡ Some y → x ≡ y
  some_same x y e = cc

  -- an element that was changed, or another
  pub get_set : (xs : List A) (i j : ℕ) (x y : A) → slice_get (set xs i x) j ≡ Some y
      → ((j ≡ i) × (x ≡ y)) ⊎ ((j ≢ i) × (slice_get xs j ≡ Some y))
  get_set [] i j x y e = absurd (cc)
  get_set (z ∷ zs) zero zero x y e = inl (refl, some_same x y e)
  get_set (z ∷ zs) zero (suc j) x y e = inr ((λ h. omega (arith, h)), e)
  get_set (z ∷ zs) (suc i) zero x y e = inr ((λ h. omega (arith, h)), e)
  get_set (z ∷ zs) (suc i) (suc j) x y e = ⊎_elim
      (λ (h : (j ≡ i) × (x ≡ y)). inl (ap suc h.0, h.1))
      (λ (h : (j ≢ i) × (slice_get zs j ≡ Some y)). inr ((λ s. h.0 (omega (arith, s))), h.1))
      (get_set zs i j x y e)

  -- an element is changed by a function of it
  pub set_modified : (xs : List A) (i : ℕ) (f : A → A) (x : A) → slice_get xs i ≡ Some x
      → set xs i (f x) ≡ modified xs i f
  set_modified [] i f x e = absurd (cc)
  set_modified (z ∷ zs) zero f x e = ap (λ w. f w ∷ zs) (sym (some_same z x e))
  set_modified (z ∷ zs) (suc i) f x e = ap (λ l. z ∷ l) (set_modified zs i f x e)

  -- which element that is, and that the others stay
  pub modified_at : (xs : List A) (i : ℕ) (f : A → A) (x y : A) → slice_get xs i ≡ Some x
      → slice_get (modified xs i f) i ≡ Some y → f x ≡ y
  modified_at [] i f x y e new = absurd (cc)
  modified_at (z ∷ zs) zero f x y e new = ap f (sym (some_same z x e)) ∙ some_same (f z) y new
  modified_at (z ∷ zs) (suc i) f x y e new = modified_at zs i f x y e new

  pub modified_other : (xs : List A) (i j : ℕ) (f : A → A) → j ≢ i → slice_get (modified xs i f) j ≡ slice_get xs j
  modified_other [] i j f ne = refl
  modified_other (z ∷ zs) zero zero f ne = absurd (ne refl)
  modified_other (z ∷ zs) zero (suc j) f ne = refl
  modified_other (z ∷ zs) (suc i) zero f ne = refl
  modified_other (z ∷ zs) (suc i) (suc j) f ne = modified_other zs i j f (λ e. ne (ap suc e))

  pub read_at : (xs : List A) (i : ℕ) (x : A) → i < length xs → x ≡ get_or xs i x → slice_get xs i ≡ Some x
  read_at xs i x low is = slice_get_read xs (length xs) i x refl low is

  pub there : (xs : List A) (i : ℕ) → i < length xs → (x : A) × (slice_get xs i ≡ Some x)
  there [] i low = absurd (omega (arith, low))
  there (x ∷ xs) zero low = (x, refl)
  there (x ∷ xs) (suc i) low = there xs i (omega (arith, low))

  pub at_set : (xs : List A) (i : ℕ) (old new : A) → slice_get xs i ≡ Some old → slice_get (set xs i new) i ≡ Some new
  at_set [] i old new e = absurd (cc)
  at_set (x ∷ xs) zero old new e = refl
  at_set (x ∷ xs) (suc i) old new e = at_set xs i old new e

  pub at_end : (xs : List A) (x : A) (n : ℕ) → length xs ≡ n → slice_get (xs ++ x ∷ []) n ≡ Some x
  at_end [] x n e = subst (λ m. slice_get (x ∷ []) m ≡ Some x) e refl
  at_end (y ∷ ys) x n e = subst (λ m. slice_get (y ∷ (ys ++ x ∷ [])) m ≡ Some x) e (at_end ys x (length ys) refl)

none_at : (n i : ℕ) → get_or (replicate n false) i false ≡ false
none_at zero i = refl
none_at (suc n) zero = refl
none_at (suc n) (suc i) = none_at n i

pub unmarked : (i : ℕ) → get_or none_marked i false ≡ false
unmarked i = none_at 16 i

-- marks of which none is set
pub all_unmarked : (marks : List Bool) (n : ℕ) → length marks ≡ n → ((i : ℕ) → i < n → get_or marks i false ≡ false)
    → marks ≡ replicate n false
all_unmarked [] zero long none = refl
all_unmarked [] (suc n) long none = absurd (omega (arith, long))
all_unmarked (m ∷ marks) zero long none = absurd (omega (arith, long))
all_unmarked (m ∷ marks) (suc n) long none =
    λ k. none 0 (omega arith) k ∷ all_unmarked marks n (omega (arith, long))
    (λ i low. none (suc i) (omega (arith, low))) k

pub not_le : (a b : ℕ) → b < a → nat_le a b ≡ false
not_le a b low = grind arith
