-- The value of bytes, and the bytes of a value.
use Rattle.std.proofs.Common.{◌≡◌, ℕ, zero, suc, ◌+◌, ◌-◌, ◌^◌, ◌<◌, ◌≤◌, List, ◌∷◌, ◌++◌, length, get_or, take, replicate, refl, ap, sym, ◌∙◌, zero-add, add-zero, add-suc, arith}
use Rattle.std.proofs.Math.Nat.{pow-suc}
use Rattle.std.proofs.lemmas.List.{get_or-append_right, get_or_append_left}
use Rattle.std.proofs.lemmas.Nat.{mul-add-lt}
use Rattle.std.specs.Int.{w64, byte_at, bytes_low_first, from_le_bytes}
use Rattle.rv_memory.specs.Memory.{value_at}

-- lists that agree on the bytes give one value
pub value_at-same : (xs ys : List ℕ) (a b n : ℕ) → ((i : ℕ) → i < n → get_or xs (a + i) 0 ≡ get_or ys (b + i) 0) → value_at xs a n ≡ value_at ys b n
value_at-same xs ys a b zero same = refl
value_at-same xs ys a b (suc n) same =
    let before = value_at-same xs ys a b n (λ i p. same i (omega arith)) in
    let here = same n (omega arith) in
    rw (before, here)

-- zeros above the bytes add nothing
pub value_at-zeros : (xs : List ℕ) (a n k : ℕ) → ((i : ℕ) → n ≤ i → get_or xs (a + i) 0 ≡ 0) → value_at xs a (n + k) ≡ value_at xs a n
value_at-zeros xs a n zero zeros = rw (add-zero n)
value_at-zeros xs a n (suc k) zeros =
    let below = value_at-zeros xs a n k zeros in
    rw (add-suc n k, zeros (n + k) (omega arith)) (omega (arith, below))

pub value_at-below : (xs : List ℕ) (a n : ℕ) → ((i : ℕ) → get_or xs i 0 < 256) → value_at xs a n < 256 ^ n
value_at-below xs a zero small = omega arith
value_at-below xs a (suc n) small =
    let rest = value_at-below xs a n small in
    omega (arith, mul-add-lt (get_or xs (a + n) 0) (256 ^ n) (value_at xs a n) 256 (small (a + n)) rest, pow-suc 256 n)

from_le_bytes-value_at : (xs : List ℕ) → from_le_bytes w64 xs ≡ value_at xs 0 8
from_le_bytes-value_at xs = omega arith

pub get_or-zeros : (k i : ℕ) → get_or {A = ℕ} (replicate k 0) i 0 ≡ 0
get_or-zeros zero i = refl
get_or-zeros (suc k) zero = refl
get_or-zeros (suc k) (suc i) = get_or-zeros k i

-- bytes of a list, with zeros behind them up to eight, are the value of these bytes
pub value_at-widened : (part xs : List ℕ) (at count k : ℕ) → length part ≡ count → count + k ≡ 8 → ((i : ℕ) → i < count → get_or part i 0 ≡ get_or xs (at + i) 0) → from_le_bytes w64 (part ++ replicate k 0) ≡ value_at xs at count
value_at-widened part xs at count k long eight same =
    let wide : List ℕ = part ++ replicate k 0 in
    let above : (i : ℕ) → count ≤ i → get_or wide (0 + i) 0 ≡ 0 =
    λ i p. get_or-append_right part (replicate k 0) count (0 + i) 0 long (omega arith) ∙ get_or-zeros k (0 + i - count) in
    let below : (i : ℕ) → i < count → get_or wide (0 + i) 0 ≡ get_or xs (at + i) 0 =
    λ i p. rw (zero-add i) (get_or_append_left part (replicate k 0) 0 i (omega arith) ∙ same i p) in
    from_le_bytes-value_at wide ∙ ap (value_at wide 0) (sym eight) ∙ value_at-zeros wide 0 count k above ∙ value_at-same wide xs 0 at count below

-- the lowest bytes of a value, from more of them
pub take-bytes_low_first : (i k n value : ℕ) → k ≤ n → take k (bytes_low_first i n value) ≡ bytes_low_first i k value
take-bytes_low_first i zero n value p = refl
take-bytes_low_first i (suc k) zero value p = absurd (omega (arith, p))
take-bytes_low_first i (suc k) (suc n) value p = ap (λ rest. byte_at i value ∷ rest) (take-bytes_low_first (suc i) k n value (omega arith))
