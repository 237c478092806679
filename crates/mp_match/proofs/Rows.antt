-- What is held, after a message more and after one is taken.
use Rattle.std.proofs.Common.{◌≡◌, ℕ, zero, suc, ◌+◌, ◌≤◌, List, [], ◌∷◌, ◌++◌, length, slice_set, slice_get, Some}
use Rattle.std.proofs.Common.{None, Option, refl, ap, arith}
use Rattle.mp_match.specs.Board.{held_count}
use Rattle.mp_match.specs.Bodies.{bytes_in}

pub held_snoc : (bs : List (Option (List ℕ))) (b : Option (List ℕ))
    → held_count (bs ++ b ∷ []) ≡ held_count bs + held_count (b ∷ [])
held_snoc [] b = omega arith
held_snoc (None ∷ bs) b = held_snoc bs b
held_snoc (Some x ∷ bs) b = (let e = held_snoc bs b in omega (arith, e))

pub held_below : (bs : List (Option (List ℕ))) → held_count bs ≤ length bs
held_below [] = omega arith
held_below (None ∷ bs) = (let e = held_below bs in omega (arith, e))
held_below (Some x ∷ bs) = (let e = held_below bs in omega (arith, e))

pub one_held : (b : Option (List ℕ)) → held_count (b ∷ []) ≤ 1
one_held None = omega arith
one_held (Some x) = omega arith

pub slice_set_length : {A : Type 0} (xs : List A) (i : ℕ) (x : A) → length (slice_set xs i x) ≡ length xs
slice_set_length [] i x = refl
slice_set_length (y ∷ xs) zero x = refl
slice_set_length (y ∷ xs) (suc i) x = ap suc (slice_set_length xs i x)

pub held_set : (bs : List (Option (List ℕ))) (i : ℕ)
    → held_count (slice_set bs i None) + held_count (bytes_in (slice_get bs i) ∷ []) ≡ held_count bs
held_set [] i = omega arith
held_set (None ∷ bs) zero = omega arith
held_set (Some x ∷ bs) zero = omega arith
held_set (None ∷ bs) (suc i) = held_set bs i
held_set (Some x ∷ bs) (suc i) = (let e = held_set bs i in omega (arith, e))
