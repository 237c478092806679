-- The first place at which a test holds, and an element by its place.
use Rattle.std.specs.Prelude.{ℕ, zero, suc, ◌+◌, ◌<◌, ◌≡◌, ◌⊎◌, Bool, true, false, cond, List, [], ◌∷◌, ◌++◌, length, Some, None}
use Rattle.std.specs.List.{position_from, slice_get}
use Rattle.std.proofs.Common.{refl, ap, subst, arith}
use mathlib.Core.Logic.{inl, inr}

-- what a search found
pub record Found {A : Type 0} (t : A → Bool) (k : ℕ) (xs : List A) (i : ℕ) : Type 0 where
  pub at : ℕ
  pub place : i ≡ k + at
  pub item : A
  pub here : slice_get xs at ≡ Some item
  pub passes : t item ≡ true
  pub before : (l : ℕ) (y : A) → l < at → slice_get xs l ≡ Some y → t y ≡ false

module _ {A : Type 0} (t : A → Bool) where
  pub found : (k : ℕ) (xs : List A) (i : ℕ) → position_from t k xs ≡ Some i → Found t k xs i
  found k [] i h = absurd (cc)
  found k (x ∷ xs) i h = go (t x) refl (λ g. found (k + 1) xs i g) h
    where
      go : (b : Bool) → t x ≡ b → (position_from t (k + 1) xs ≡ Some i → Found t (k + 1) xs i)
          → cond b (Some k) (position_from t (k + 1) xs) ≡ Some i → Found t k (x ∷ xs) i
      go true e rec h = record {
        at = 0;
        place = (let q : k ≡ i = (cc) in omega arith);
        item = x;
        here = refl;
        passes = e;
        before = λ l y m g. absurd (omega arith);
      }
      go false e rec h =
          let f = rec h in record {
            at = suc f.at;
            place = (let q : i ≡ (k + 1) + f.at = f.place in omega arith);
            item = f.item;
            here = f.here;
            passes = f.passes;
            before = before f;
          }
        where
          before : (f : Found t (k + 1) xs i) → (l : ℕ) (y : A) → l < suc f.at → slice_get (x ∷ xs) l ≡ Some y
              → t y ≡ false
          before f zero y m g = let q : x ≡ y = (cc) in subst (λ z. t z ≡ false) q e
          before f (suc l) y m g = f.before l y (omega arith) g

  pub found_none : (k : ℕ) (xs : List A) → position_from t k xs ≡ None → (l : ℕ) (y : A) → slice_get xs l ≡ Some y
      → t y ≡ false
  found_none k [] h l y g = absurd (cc)
  found_none k (x ∷ xs) h l y g = go (t x) refl (λ r m g. found_none (k + 1) xs r m y g) h l g
    where
      go : (b : Bool) → t x ≡ b → (position_from t (k + 1) xs ≡ None → (m : ℕ) → slice_get xs m ≡ Some y → t y ≡ false)
          → cond b (Some k) (position_from t (k + 1) xs) ≡ None → (l : ℕ) → slice_get (x ∷ xs) l ≡ Some y → t y ≡ false
      go true e rec h l g = absurd (cc)
      go false e rec h zero g = let q : x ≡ y = (cc) in subst (λ z. t z ≡ false) q e
      go false e rec h (suc l) g = rec h l g

  pub found_first : (xs : List A) (i : ℕ) → position_from t 0 xs ≡ Some i
      → (x : A) × (slice_get xs i ≡ Some x) × (t x ≡ true)
      × ((l : ℕ) (y : A) → l < i → slice_get xs l ≡ Some y → t y ≡ false)
  found_first xs i h =
      let f = found 0 xs i h in
      let q : f.at ≡ i = (let p : i ≡ 0 + f.at = f.place in omega arith) in (
        f.item,
        subst (λ j. slice_get xs j ≡ Some f.item) q f.here,
        f.passes,
        λ l y m g. f.before l y (omega (arith, m, q)) g,
      )

pub get_within : {A : Type 0} (xs : List A) (i : ℕ) (x : A) → slice_get xs i ≡ Some x → i < length xs
get_within [] i x h = absurd (cc)
get_within (y ∷ xs) zero x h = omega arith
get_within (y ∷ xs) (suc i) x h = (let p : i < length xs = get_within xs i x h in omega arith)

pub get_last : {A : Type 0} (xs : List A) (y : A) → slice_get (xs ++ y ∷ []) (length xs) ≡ Some y
get_last [] y = refl
get_last (x ∷ xs) y = get_last xs y

pub get_front : {A : Type 0} (xs ys : List A) (i : ℕ) (x : A) → slice_get xs i ≡ Some x
    → slice_get (xs ++ ys) i ≡ Some x
get_front [] ys i x h = absurd (cc)
get_front (z ∷ xs) ys zero x h = h
get_front (z ∷ xs) ys (suc i) x h = get_front xs ys i x h

pub get_snoc : {A : Type 0} (xs : List A) (y : A) (i : ℕ) (x : A) → slice_get (xs ++ y ∷ []) i ≡ Some x
    → ((i ≡ length xs) × (x ≡ y)) ⊎ (slice_get xs i ≡ Some x)
get_snoc [] y zero x h = inl (refl, (cc))
get_snoc [] y (suc i) x h = absurd (cc)
get_snoc (z ∷ xs) y zero x h = inr h
get_snoc (z ∷ xs) y (suc i) x h = elim (get_snoc xs y i x h) [ inl p ↦ inl (ap suc p.0, p.1) | inr p ↦ inr p ]
