-- A filtered list without its first number.
use Rattle.std.proofs.Common.{◌≡◌, ℕ, ◌+◌, ◌<◌, Bool, true, false, not, ◌&&◌, List, [], ◌∷◌, length, get_or, drop, refl, sym, ap, ◌∙◌, add-one, drop-cons, arith}
use Rattle.std.specs.Prelude.{◌==◌, cond, filter}
use Rattle.std.specs.List.{list_any}
use Rattle.std.proofs.lemmas.Bool.{eqb-true}
use Rattle.std.proofs.lemmas.Map.Views.{any-filter_same}
use Rattle.mp_types.specs.Rising.{AreAbove, AreRising}
use Rattle.mp_types.proofs.Above.{not_among}
use Rattle.mp_request.specs.Table.{is_distinct}

-- what equals x passes the filter as x does
pub found_alike : (p : ℕ → Bool) (x : ℕ) (xs : List ℕ) → p x ≡ true
    → list_any (λ y. y == x) (filter p xs) ≡ list_any (λ y. y == x) xs
found_alike p x xs passes = any-filter_same (λ y. y == x) p true (λ k e. ap p (eqb-true k x e) ∙ passes) xs

-- the first is left out, or stands nowhere behind: the rest decides
distinct_behind : (p : ℕ → Bool) (x : ℕ) (xs : List ℕ) → (p x ≡ true → list_any (λ y. y == x) xs ≡ false)
    → is_distinct (filter p (x ∷ xs)) ≡ is_distinct (filter p xs)
distinct_behind p x xs once = go (p x) refl
  where
    go : (b : Bool) → p x ≡ b → is_distinct (cond b (x ∷ filter p xs) (filter p xs)) ≡ is_distinct (filter p xs)
    go true is = ap (λ b. not b && is_distinct (filter p xs)) (found_alike p x xs is ∙ once is)
    go false is = refl

-- the first passes and stands behind once more
distinct_not : (p : ℕ → Bool) (x : ℕ) (xs : List ℕ) → p x ≡ true → list_any (λ y. y == x) xs ≡ true
    → is_distinct (filter p (x ∷ xs)) ≡ false
distinct_not p x xs passes twice =
    ap (λ b. is_distinct (cond b (x ∷ filter p xs) (filter p xs))) passes
    ∙ ap (λ b. not b && is_distinct (filter p xs)) (found_alike p x xs passes ∙ twice)

-- the rest of a list from place i on is the number there and what stands behind
drop_at : (xs : List ℕ) (i : ℕ) → i < length xs → drop i xs ≡ get_or xs i 0 ∷ drop (i + 1) xs
drop_at xs i low = drop-cons xs i 0 low ∙ ap (λ k. get_or xs i 0 ∷ drop k xs) (sym (add-one i))

pub distinct_behind_at : (p : ℕ → Bool) (xs : List ℕ) (i : ℕ) → i < length xs
    → (p (get_or xs i 0) ≡ true → list_any (λ y. y == get_or xs i 0) (drop (i + 1) xs) ≡ false)
    → is_distinct (filter p (drop i xs)) ≡ is_distinct (filter p (drop (i + 1) xs))
distinct_behind_at p xs i low once =
    ap (λ l. is_distinct (filter p l)) (drop_at xs i low) ∙ distinct_behind p (get_or xs i 0) (drop (i + 1) xs) once

pub distinct_not_at : (p : ℕ → Bool) (xs : List ℕ) (i : ℕ) → i < length xs → p (get_or xs i 0) ≡ true
    → list_any (λ y. y == get_or xs i 0) (drop (i + 1) xs) ≡ true → is_distinct (filter p (drop i xs)) ≡ false
distinct_not_at p xs i low passes twice =
    ap (λ l. is_distinct (filter p l)) (drop_at xs i low)
    ∙ distinct_not p (get_or xs i 0) (drop (i + 1) xs) passes twice

-- of rising numbers each that passes stands once
above_distinct : (p : ℕ → Bool) (x : ℕ) (xs : List ℕ) → AreAbove x xs → is_distinct (filter p (x ∷ xs)) ≡ true
above_distinct p x [] above = distinct_behind p x [] (λ passes. refl)
above_distinct p x (y ∷ xs) above =
    distinct_behind p x (y ∷ xs) (λ passes. not_among x x (omega arith) (y ∷ xs) above)
    ∙ above_distinct p y xs above.1

pub rising_distinct : (p : ℕ → Bool) (xs : List ℕ) → AreRising xs → is_distinct (filter p xs) ≡ true
rising_distinct p [] rising = refl
rising_distinct p (x ∷ xs) rising = above_distinct p x xs rising
