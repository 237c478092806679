-- Ranks of which some are left out, in rising order.
use Rattle.std.specs.Prelude.{ℕ, zero, suc, ◌≡◌, ◌<◌, ◌≤◌, ◌+◌, ◌==◌, ◌||◌, ◌⊎◌, ◌++◌, IsTrue, true, false}
use Rattle.std.specs.Prelude.{List, [], ◌∷◌, length, get_or, remove}
use Rattle.std.specs.List.Sorted.{IsStrictlyIncreasing}
use Rattle.std.proofs.Common.{refl, sym, ap, ◌∙◌, inl, inr, arith}
use Rattle.std.proofs.lemmas.Bool.{cases_lt, eq-eqb, eqb-true, or_cases, or_left, or_right}
use Rattle.std.proofs.lemmas.List.{length-append}
use Rattle.std.proofs.lemmas.List.Edits.{get_or-remove_above, get_or-remove_below, length-remove}
use Rattle.std.proofs.lemmas.List.Folds.{list_any-append}
use Rattle.cl_state.specs.Rank.{below}
use Rattle.cl_deadlock_laws.specs.Stuck.{is_among}

-- ---- without the one at a place

-- whoever isn't the one that was left out is left
pub still_there : (xs : List ℕ) (i r : ℕ) → IsTrue (is_among xs r) → (get_or xs i 0 ≡ r → ⊥)
    → IsTrue (is_among (remove xs i) r)
still_there [] i r here other = absurd (cc)
still_there (x ∷ xs) zero r here other = elim (or_cases (x == r) (is_among xs r) here) [
  | inl same ↦ absurd (other (eqb-true x r same))
  | inr rest ↦ rest
]
still_there (x ∷ xs) (suc i) r here other = elim (or_cases (x == r) (is_among xs r) here) [
  | inl same ↦ or_left (x == r) (is_among (remove xs i) r) same
  | inr rest ↦ or_right (x == r) (is_among (remove xs i) r) (still_there xs i r rest other)
]

-- and whoever is left was there
pub was_there : (xs : List ℕ) (i r : ℕ) → IsTrue (is_among (remove xs i) r) → IsTrue (is_among xs r)
was_there [] zero r here = absurd (cc)
was_there [] (suc i) r here = absurd (cc)
was_there (x ∷ xs) zero r here = or_right (x == r) (is_among xs r) here
was_there (x ∷ xs) (suc i) r here = elim (or_cases (x == r) (is_among (remove xs i) r) here) [
  | inl same ↦ or_left (x == r) (is_among xs r) same
  | inr rest ↦ or_right (x == r) (is_among xs r) (was_there xs i r rest)
]

-- the others still rise
pub rising_left : (xs : List ℕ) (i : ℕ) → i < length xs → IsStrictlyIncreasing xs → IsStrictlyIncreasing (remove xs i)
rising_left xs i inside rising k low = by (cases_lt (k + 1) i)
  where
    fewer : length (remove xs i) + 1 ≡ length xs
    fewer = length-remove xs i inside

    by : (k + 1 < i) ⊎ (i ≤ k + 1) → get_or (remove xs i) k 0 < get_or (remove xs i) (k + 1) 0
    by (inl before) =
        let first : get_or (remove xs i) k 0 ≡ get_or xs k 0 =
        get_or-remove_below xs i 0 k (omega (arith, before)) inside in
        let second : get_or (remove xs i) (k + 1) 0 ≡ get_or xs (k + 1) 0 =
        get_or-remove_below xs i 0 (k + 1) before inside in
        let up = rising k (omega (arith, low, fewer)) in
        omega (arith, first, second, up)
    by (inr after) = elim (cases_lt k i) [
      | inl at ↦
          let first : get_or (remove xs i) k 0 ≡ get_or xs k 0 = get_or-remove_below xs i 0 k at inside in
          let second : get_or (remove xs i) (k + 1) 0 ≡ get_or xs (k + 1 + 1) 0 =
          get_or-remove_above xs i 0 (k + 1) after inside in
          let up = rising k (omega (arith, low, fewer)) in
          let up_again = rising (k + 1) (omega (arith, low, fewer)) in
          omega (arith, first, second, up, up_again)
      | inr past ↦
          let first : get_or (remove xs i) k 0 ≡ get_or xs (k + 1) 0 = get_or-remove_above xs i 0 k past inside in
          let second : get_or (remove xs i) (k + 1) 0 ≡ get_or xs (k + 1 + 1) 0 =
          get_or-remove_above xs i 0 (k + 1) after inside in
          let up = rising (k + 1) (omega (arith, low, fewer)) in
          omega (arith, first, second, up)
    ]

-- ---- all ranks

length-below : (n : ℕ) → length (below n) ≡ n
length-below zero = refl
length-below (suc n) = (let less = length-below n in omega (arith, less, length-append (below n) (n ∷ [])))

before_more : (xs ys : List ℕ) (k : ℕ) → k < length xs → get_or (xs ++ ys) k 0 ≡ get_or xs k 0
before_more [] ys k low = absurd (omega (arith, low))
before_more (x ∷ xs) ys zero low = refl
before_more (x ∷ xs) ys (suc k) low = before_more xs ys k (omega (arith, low))

at_end : (xs : List ℕ) (x : ℕ) → get_or (xs ++ x ∷ []) (length xs) 0 ≡ x
at_end [] x = refl
at_end (y ∷ xs) x = at_end xs x

below_at : (n k : ℕ) → k < n → get_or (below n) k 0 ≡ k
below_at zero k low = absurd (omega (arith, low))
below_at (suc n) k low = by (cases_lt k n) (below_at n k)
  where
    by : (k < n) ⊎ (n ≤ k) → (k < n → get_or (below n) k 0 ≡ k) → get_or (below (suc n)) k 0 ≡ k
    by (inl earlier) at =
        let count = length-below n in
        before_more (below n) (n ∷ []) k (omega (arith, earlier, count)) ∙ at earlier
    by (inr last) at =
        let here : k ≡ length (below n) = (let count = length-below n in omega (arith, last, low, count)) in
        let same : n ≡ k = omega (arith, last, low) in
        ap (λ i. get_or (below n ++ n ∷ []) i 0) here ∙ (at_end (below n) n ∙ same)

pub rising_below : (n : ℕ) → IsStrictlyIncreasing (below n)
rising_below n k low =
    let count = length-below n in
    let one = below_at n k (omega (arith, low, count)) in
    let next = below_at n (k + 1) (omega (arith, low, count)) in
    omega (arith, one, next)

pub below_among : (n r : ℕ) → r < n → IsTrue (is_among (below n) r)
below_among zero r low = absurd (omega (arith, low))
below_among (suc n) r low =
    list_any-append (λ k. k == r) (below n) (n ∷ []) ∙ by (cases_lt r n) (below_among n r)
  where
    by : (r < n) ⊎ (n ≤ r) → (r < n → IsTrue (is_among (below n) r))
        → (is_among (below n) r || is_among (n ∷ []) r) ≡ true
    by (inl earlier) among = or_left (is_among (below n) r) (is_among (n ∷ []) r) (among earlier)
    by (inr last) among =
        or_right (is_among (below n) r) (is_among (n ∷ []) r)
        (or_left (n == r) false (eq-eqb n r (omega (arith, last, low))))

pub among_below : (n r : ℕ) → IsTrue (is_among (below n) r) → r < n
among_below zero r here = absurd (cc)
among_below (suc n) r here =
    elim (or_cases (is_among (below n) r) (is_among (n ∷ []) r)
    (sym (list_any-append (λ k. k == r) (below n) (n ∷ [])) ∙ here)) [
      | inl earlier ↦ (let low = among_below n r earlier in omega (arith, low))
      | inr last ↦ elim (or_cases (n == r) false last) [
        | inl same ↦ (let is = eqb-true n r same in omega (arith, is))
        | inr nobody ↦ absurd (cc)
      ]
    ]
