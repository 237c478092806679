-- Each call's number is below the end of the numbers.
use Rattle.std.proofs.Common.{◌≡◌, ℕ, ◌<◌, ◌==◌, Bool, true, false, List, [], ◌∷◌, Some, is_some, refl, ap, subst, rules, arith}
use Rattle.std.specs.Prelude.{cond, option_map}
use Rattle.std.specs.List.{find}
use Rattle.cl_calls.specs.Names.{call_names, name_in, numbers_end}

abbrev AreBelow : ℕ → List (ℕ × List ℕ) → Type 0
AreBelow end [] = Unit {0}
AreBelow end (row ∷ rows) = (row.0 < end) × AreBelow end rows

is_equal : (n k : ℕ) → (n == k) ≡ true → n ≡ k
is_equal n k h = search (rules, h)

pub is_same : (n k : ℕ) → n ≡ k → (n == k) ≡ true
is_same n k h = search (rules, h)

pub is_other : (n k : ℕ) → (n ≡ k → ⊥) → (n == k) ≡ false
is_other n k h = search (rules, h)

found_below : (end number : ℕ) (rows : List (ℕ × List ℕ)) → AreBelow end rows → is_some (name_in number rows) ≡ true
    → number < end
found_below end number [] below found = absurd (cc)
found_below end number (row ∷ rows) below found =
    go (row.0 == number) refl (found_below end number rows below.1) found
  where
    go : (same : Bool) → (row.0 == number) ≡ same → (is_some (name_in number rows) ≡ true → number < end)
        → is_some (option_map (λ r. r.1) (cond same (Some row) (find (λ r. r.0 == number) rows))) ≡ true → number < end
    go true is behind found = subst (λ n. n < end) (is_equal row.0 number is) below.0
    go false is behind found = behind found

names_below : AreBelow numbers_end call_names
names_below = search (rules, arith)

pub below_end : (number : ℕ) (name : List ℕ) → name_in number call_names ≡ Some name → number < numbers_end
below_end number name found = found_below numbers_end number call_names names_below (ap is_some found)
