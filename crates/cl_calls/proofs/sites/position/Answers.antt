use Rattle.std.proofs.Common.{rules, arith, ◌≡◌, ◌<◌, ◌==◌, List, ℕ, length, get_or, Some, None, true, false, nat_lt}
use Rattle.std.proofs.lemmas.List.Sums.{position_or_len_is}
use Rattle.std.specs.List.{position_or_len}
use Rattle.cl_calls.specs.Site.{position_of}
use Rattle.cl_calls.proofs.sites.position.Goals as goal

same : (r x : ℕ) → x ≡ r → (x == r) ≡ true
same r x e = search (rules, e)

found : (r : ℕ) (xs : List ℕ) (i : ℕ) → i < length xs →
    ((k : ℕ) → k < i → (get_or xs k 0 == r) ≡ false) → get_or xs i 0 ≡ r → Some i ≡ position_of r xs
found r xs i h before here =
    let e : position_or_len (λ x. x == r) xs ≡ i =
    position_or_len_is (λ x. x == r) xs i 0 (omega (arith, h)) before (λ _. same r (get_or xs i 0) here) in
    let t : nat_lt i (length xs) ≡ true = search (rules, h) in
    rw (e, t) (λ k. Some i)

impossible : (i n : ℕ) → i ≡ n → i < n → ⊥
impossible i n h l = omega (arith, h, l)

none : (r : ℕ) (xs : List ℕ) (i : ℕ) → i ≡ length xs →
    ((k : ℕ) → k < i → (get_or xs k 0 == r) ≡ false) → None ≡ position_of r xs
none r xs i h before =
    let e : position_or_len (λ x. x == r) xs ≡ i =
    position_or_len_is (λ x. x == r) xs i 0 (omega (arith, h)) before
    (λ l. absurd (impossible i (length xs) h l)) in
    let t : nat_lt i (length xs) ≡ false = search (rules, h) in
    rw (e, t) (λ k. None)

pub returns-then-ranks-i : goal.returns-then-ranks-i
returns-then-ranks-i c = found _ _ c.loop-i.i (search rules) c.loop-i.invariant (search rules)

pub returns : goal.returns
returns c = none _ _ c.loop-i.i (search rules) c.loop-i.invariant
