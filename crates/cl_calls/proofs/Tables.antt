-- Walks along a table, to its first row that passes a test.
use Rattle.std.proofs.Common.{◌≡◌, ℕ, zero, suc, ◌+◌, ◌<◌, ◌≤◌, Bool, true, false, List, [], ◌∷◌, length, drop, map, get_or, Some, None, refl, sym, ap, ◌∙◌, arith}
use Rattle.std.proofs.lemmas.List.{drop_all, length-map}
use Rattle.std.specs.List.{find}

-- from i on there is what stands at i, and the rest
row_at : {A B : Type 0} (view : A → B) (xs : List A) (i : ℕ) (d : A) → i < length xs → drop i (map view xs) ≡ view (get_or xs i d) ∷ drop (i + 1) (map view xs)
row_at view [] i d lt = absurd (omega arith)
row_at view (x ∷ xs) zero d lt = refl
row_at view (x ∷ xs) (suc i) d lt =
    let e : suc (i + 1) ≡ suc i + 1 = omega arith in
    row_at view xs i d (omega arith) ∙ ap (λ (k : ℕ). view (get_or xs i d) ∷ drop k (view x ∷ map view xs)) e

pub find_passed : {A B : Type 0} (test : B → Bool) (view : A → B) (xs : List A) (i : ℕ) (d : A) → i < length xs → test (view (get_or xs i d)) ≡ false
    → find test (drop i (map view xs)) ≡ find test (map view xs) → find test (drop (i + 1) (map view xs)) ≡ find test (map view xs)
find_passed test view xs i d lt h so_far =
    let one : find test (view (get_or xs i d) ∷ drop (i + 1) (map view xs)) ≡ find test (drop (i + 1) (map view xs)) = rw h refl in
    sym one ∙ ap (find test) (sym (row_at view xs i d lt)) ∙ so_far

pub find_met : {A B : Type 0} (test : B → Bool) (view : A → B) (xs : List A) (i : ℕ) (d : A) → i < length xs → test (view (get_or xs i d)) ≡ true
    → find test (drop i (map view xs)) ≡ find test (map view xs) → find test (map view xs) ≡ Some (view (get_or xs i d))
find_met test view xs i d lt h so_far =
    let one : find test (view (get_or xs i d) ∷ drop (i + 1) (map view xs)) ≡ Some (view (get_or xs i d)) = rw h refl in
    sym so_far ∙ ap (find test) (row_at view xs i d lt) ∙ one

pub find_end : {A B : Type 0} (test : B → Bool) (view : A → B) (xs : List A) (i : ℕ) → length xs ≤ i
    → find test (drop i (map view xs)) ≡ find test (map view xs) → find test (map view xs) ≡ None
find_end test view xs i le so_far =
    let none : drop i (map view xs) ≡ [] = drop_all i (map view xs) (omega (arith, length-map xs view)) in
    sym so_far ∙ ap (find test) none
