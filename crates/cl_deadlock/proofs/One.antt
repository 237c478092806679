-- A state has one verdict: the most ranks that are stuck together, in rising order, are one list.
use Rattle.std.specs.Prelude.{ℕ, suc, ◌≡◌, ◌<◌, ◌+◌, ◌==◌, ◌⊎◌, IsTrue, List, [], ◌∷◌, length}
use Rattle.std.specs.Prelude.{get_or, Option, Some, None}
use Rattle.std.specs.List.Sorted.{IsStrictlyIncreasing}
use Rattle.std.proofs.Common.{refl, sym, ap, subst, ◌∙◌, inl, inr, arith}
use Rattle.std.proofs.lemmas.Bool.{cases_eq, eq-eqb, eqb-true, or_cases, or_left, or_right}
use Rattle.mp_wait_laws.specs.Waits.{OnlyOf}
use Rattle.cl_deadlock_laws.specs.Stuck.{is_among}
use Rattle.cl_deadlock.specs.Why.{IsVerdictOf}
use Rattle.cl_deadlock.specs.Laws.{OneVerdictLaw}

tail_rises : (x : ℕ) (xs : List ℕ) → IsStrictlyIncreasing (x ∷ xs) → IsStrictlyIncreasing xs
tail_rises x xs rising k low =
    let next : suc k + 1 ≡ suc (k + 1) = omega arith in
    let inside : suc k + 1 < length (x ∷ xs) = omega (arith, low) in
    subst (λ n. get_or xs k 0 < get_or (x ∷ xs) n 0) next (rising (suc k) inside)

first_rises : (x y : ℕ) (ys : List ℕ) → IsStrictlyIncreasing (x ∷ y ∷ ys) → x < y
first_rises x y ys rising = rising 0 (omega arith)

-- the first is below the others
below_rest : (x : ℕ) (xs : List ℕ) → IsStrictlyIncreasing (x ∷ xs) → (r : ℕ) → IsTrue (is_among xs r) → x < r
below_rest x [] rising r here = absurd (cc)
below_rest x (y ∷ ys) rising r here =
    let up = first_rises x y ys rising in
    elim (or_cases (y == r) (is_among ys r) here) [
      | inl same ↦ (let is = eqb-true y r same in omega (arith, up, is))
      | inr rest ↦ (let far = below_rest y ys (tail_rises x (y ∷ ys) rising) r rest in omega (arith, up, far))
    ]

head_among : (x : ℕ) (xs : List ℕ) → IsTrue (is_among (x ∷ xs) x)
head_among x xs = or_left (x == x) (is_among xs x) (eq-eqb x x refl)

-- nobody of a list that is among those of a greater first is the first
rest_only : (x y : ℕ) (xs ys : List ℕ) → x ≡ y → IsStrictlyIncreasing (x ∷ xs)
    → OnlyOf (is_among (y ∷ ys)) (is_among (x ∷ xs)) → OnlyOf (is_among ys) (is_among xs)
rest_only x y xs ys same rising only r here =
    elim (or_cases (y == r) (is_among ys r) (only r (or_right (x == r) (is_among xs r) here))) [
      | inl first ↦
          let far = below_rest x xs rising r here in
          let is = eqb-true y r first in
          absurd (omega (arith, far, is, same))
      | inr rest ↦ rest
    ]

first_low : (x y : ℕ) (xs ys : List ℕ) → IsStrictlyIncreasing (y ∷ ys)
    → OnlyOf (is_among (y ∷ ys)) (is_among (x ∷ xs)) → (x ≡ y → ⊥) → y < x
first_low x y xs ys rising only other = elim (or_cases (y == x) (is_among ys x) (only x (head_among x xs))) [
  | inl first ↦ absurd (other (sym (eqb-true y x first)))
  | inr rest ↦ below_rest y ys rising x rest
]

pub one_list : (xs ys : List ℕ) → IsStrictlyIncreasing xs → IsStrictlyIncreasing ys
    → OnlyOf (is_among ys) (is_among xs) → OnlyOf (is_among xs) (is_among ys) → xs ≡ ys
one_list [] [] up down some others = refl
one_list [] (y ∷ ys) up down some others = (let none = others y (head_among y ys) in absurd (cc))
one_list (x ∷ xs) [] up down some others = (let none = some x (head_among x xs) in absurd (cc))
one_list (x ∷ xs) (y ∷ ys) up down some others =
    let heads = same_heads (cases_eq x y) in
    ap (λ n. n ∷ xs) heads
    ∙ ap (λ l. y ∷ l) (one_list xs ys (tail_rises x xs up) (tail_rises y ys down) (rest_only x y xs ys heads up some)
    (rest_only y x ys xs (sym heads) down others))
  where
    same_heads : (x ≡ y) ⊎ (x ≡ y → ⊥) → x ≡ y
    same_heads (inl same) = same
    same_heads (inr other) =
        let one = first_low x y xs ys down some other in
        let two = first_low y x ys xs up others (λ e. other (sym e)) in
        absurd (omega (arith, one, two))

pub one_verdict : OneVerdictLaw
one_verdict image state cluster one other is first second = by one other (first image cluster is) (second image cluster is)
  where
    by : (a b : Option (List ℕ)) → IsVerdictOf cluster a → IsVerdictOf cluster b → a ≡ b
    by None None a b = refl
    by None (Some ys) a b = absurd (a ys b.are_ranks b.stuck b.deadlock.waits)
    by (Some xs) None a b = absurd (b xs a.are_ranks a.stuck a.deadlock.waits)
    by (Some xs) (Some ys) a b =
        ap (λ l. Some l) (one_list xs ys a.rising b.rising (b.most xs a.are_ranks a.stuck)
        (a.most ys b.are_ranks b.stuck))
