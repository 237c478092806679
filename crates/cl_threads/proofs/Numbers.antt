-- On lists by number.
use Rattle.std.specs.Prelude.{ℕ, zero, suc, ◌≡◌, ◌<◌, ◌≤◌, List, [], ◌∷◌, ◌++◌, length, replicate, slice_get}
use Rattle.std.specs.Prelude.{Some, None}
use Rattle.std.proofs.Common.{refl, ap, ◌∙◌, arith}
use Rattle.std.proofs.lemmas.List.{get_or-replicate, length-replicate}
use Rattle.std.proofs.lemmas.Option.{slice_get-get_or, slice_get_past}

-- the first of two lists keeps its numbers
pub at_front : {X : Type 0} (xs ys : List X) (n : ℕ) (x : X) → slice_get xs n ≡ Some x
    → slice_get (xs ++ ys) n ≡ Some x
at_front [] ys n x h = absurd (cc)
at_front (z ∷ xs) ys zero x h = h
at_front (z ∷ xs) ys (suc n) x h = at_front xs ys n x h

-- the second's first element stands behind it
pub at_seam : {X : Type 0} (xs : List X) (x : X) → slice_get (xs ++ x ∷ []) (length xs) ≡ Some x
at_seam [] x = refl
at_seam (y ∷ xs) x = at_seam xs x

-- elements of which something holds, one at each number below n
abbrev pub Chosen : {X : Type 0} → (ℕ → X → Type 0) → ℕ → Type 0
Chosen {X} P n =
    (xs : List X) × (length xs ≡ n) × ((i : ℕ) → i < n → (x : X) × (slice_get xs i ≡ Some x) × P i x)

chosen_more : {X : Type 0} (P : ℕ → X → Type 0) (n : ℕ) (x : X) → P 0 x → Chosen (λ i. P (suc i)) n → Chosen P (suc n)
chosen_more {X} P n x p rest = (x ∷ rest.0, ap suc rest.1, at)
  where
    at : (i : ℕ) → i < suc n → (y : X) × (slice_get (x ∷ rest.0) i ≡ Some y) × P i y
    at zero low = (x, refl, p)
    at (suc i) low = rest.2 i (omega (arith, low))

pub choose : {X : Type 0} (P : ℕ → X → Type 0) (n : ℕ) → ((i : ℕ) → i < n → (x : X) × P i x) → Chosen P n
choose P zero h = ([], refl, λ i low. absurd (omega (arith, low)))
choose P (suc n) h =
    let first = h 0 (omega arith) in
    chosen_more P n first.0 first.1 (choose (λ i. P (suc i)) n (λ i low. h (suc i) (omega (arith, low))))

-- so many of one element
pub replicated_at : {X : Type 0} (n i : ℕ) (x : X) → i < n → slice_get (replicate n x) i ≡ Some x
replicated_at n i x low =
    slice_get-get_or (replicate n x) i x (omega (arith, low, length-replicate n x))
    ∙ ap Some (get_or-replicate n i x x low)

pub none_replicated : {X : Type 0} (n i : ℕ) (x : X) → n ≤ i → slice_get (replicate n x) i ≡ None
none_replicated n i x up = slice_get_past (replicate n x) i (omega (arith, up, length-replicate n x))
