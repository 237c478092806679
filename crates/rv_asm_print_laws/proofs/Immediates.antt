-- Immediates that fit, taken as they are.
use Rattle.std.proofs.Common.{◌≡◌, ℕ, zero, suc, ◌-◌, ◌*◌, ◌/◌, ◌%◌, ◌^◌, ◌<◌, ◌≤◌, true, false, ◌&&◌, Ok, Err, ℤ, pos, negsuc, neg_ℤ, ◌-ℤ◌, ◌*ℤ◌, ◌≤ℤ◌, int_le, int_rem, refl, sym, ap, ◌∙◌, arith, tests, le→leb, leb→le, leb, ltb, le-leb, lt-ltb}
use Rattle.std.specs.Int.{w32, cast_unsigned}
use Rattle.std.specs.Ordering.{int_eq}
use Rattle.std.specs.Int.Signed.{mag}
use Rattle.rv_asm_tokens.specs.declared.fault.AsmFaultKind.TheVariants as kinds
use Rattle.rv_asm_lines.specs.Resolved.{is_between, ranged, even_ranged, upper_immediate}
use Rattle.rv_asm_print_laws.proofs.Branches.{both_hold, holds, then_branch, else_branch}
use Rattle.rv_asm_print_laws.proofs.Numbers.{IsSmall}

within : (low high z : ℤ) → low ≤ℤ z → z ≤ℤ high → is_between low high z ≡ true
within low high z l h = both_hold (int_le low z) (int_le z high) (holds (int_le low z) l.le) (holds (int_le z high) h.le)

-- a number within its bounds is taken
pub ranged_taken : (low high z : ℤ) → low ≤ℤ z → z ≤ℤ high → ranged low high z ≡ Ok z
unfolding ranged
ranged_taken low high z l h = then_branch (is_between low high z) (Ok z) (Err (kinds.Range z)) (within low high z l h)

pub even_taken : (low high z : ℤ) → low ≤ℤ z → z ≤ℤ high → int_rem z (pos 2) ≡ pos 0 → even_ranged low high z ≡ Ok z
unfolding even_ranged
even_taken low high z l h even =
    let is_even : int_eq (int_rem z (pos 2)) (pos 0) ≡ true = ap (λ r. int_eq r (pos 0)) even in
    then_branch (is_between low high z && int_eq (int_rem z (pos 2)) (pos 0)) (Ok z) (Err (kinds.Range z)) (both_hold (is_between low high z) (int_eq (int_rem z (pos 2)) (pos 0)) (within low high z l h) is_even)

pub amount_taken : (n most : ℕ) → n < most → ranged (pos 0) (pos (most - 1)) (pos n) ≡ Ok (pos n)
amount_taken n most below =
    let least : 0 ≤ n = omega arith in
    let greatest : n ≤ most - 1 = omega arith in
    ranged_taken (pos 0) (pos (most - 1)) (pos n) (record { le = le→leb 0 n least }) (record { le = le→leb n (most - 1) greatest })

-- bounds of less than 2 ^ 63
pub small : (a b : ℕ) (z : ℤ) → negsuc a ≤ℤ z → z ≤ℤ pos b → a < 2 ^ 63 → b < 2 ^ 63 → IsSmall z
small a b (pos n) l h below_a below_b = let le : n ≤ b = leb→le n b h.le in omega arith
small a b (negsuc n) l h below_a below_b = let le : n ≤ a = leb→le n a l.le in omega arith

-- ---- the operand of lui and auipc

neg_zero : (r : ℕ) → neg_ℤ (pos r) ≡ pos 0 → r ≡ 0
neg_zero zero h = refl
neg_zero (suc r) h = absurd cc

-- the upper 20 bits of a number of 32
abbrev pub upper_part : ℤ → ℕ
upper_part z = cast_unsigned w32 z / 2 ^ 12

low_upper : (m n : ℕ) → m ≡ n * 4096 → n ≤ 524287 → upper_immediate (pos n) ≡ pos m
unfolding upper_immediate
low_upper m n same low = then_branch (leb n 524287) (pos (n * 4096)) ((pos n -ℤ pos 1048576) *ℤ pos 4096) (le-leb n 524287 low) ∙ ap pos (sym same)

above : (n : ℕ) → 524288 ≤ n → leb n 524287 ≡ false
above n h = grind (arith, tests)

negative : (n k : ℕ) → n < 1048576 → (suc (1048576 - suc n)) * 4096 ≡ suc k → (pos n -ℤ pos 1048576) *ℤ pos 4096 ≡ negsuc k
negative n k below same =
    ap (λ (z : ℤ). z *ℤ pos 4096) (then_branch (ltb n 1048576) (negsuc (1048576 - suc n)) (pos (n - 1048576)) (lt-ltb n 1048576 below))
    ∙ ap (λ (m : ℕ). neg_ℤ (pos m)) same

high_upper : (k n : ℕ) → n < 1048576 → 524288 ≤ n → suc (1048576 - suc n) * 4096 ≡ suc k → upper_immediate (pos n) ≡ negsuc k
unfolding upper_immediate
high_upper k n below high same = else_branch (leb n 524287) (pos (n * 4096)) ((pos n -ℤ pos 1048576) *ℤ pos 4096) (above n high) ∙ negative n k below same

-- an immediate of 32 bits whose lower 12 are 0 comes back from its upper part
pub upper_taken : (z : ℤ) → mag z < 2 ^ 31 → int_rem z (pos 4096) ≡ pos 0 → upper_immediate (pos (upper_part z)) ≡ z
upper_taken (pos m) below whole =
    let e : m % 4096 ≡ 0 = cc in
    let same : m ≡ m / 4096 * 4096 = omega arith in
    let low : m / 4096 ≤ 524287 = omega arith in
    low_upper m (m / 4096) same low
upper_taken (negsuc k) below whole =
    let e : suc k % 4096 ≡ 0 = neg_zero (suc k % 4096) whole in
    let n = (2 ^ 32 - suc k) / 4096 in
    let top : n < 1048576 = omega arith in
    let high : 524288 ≤ n = omega arith in
    let same : suc (1048576 - suc n) * 4096 ≡ suc k = omega arith in
    high_upper k n top high same

pub upper_below : (z : ℤ) → mag z < 2 ^ 31 → upper_part z ≤ 1048575
upper_below (pos m) below = omega arith
upper_below (negsuc k) below = omega arith

pub upper_ranged : (z : ℤ) → mag z < 2 ^ 31 → ranged (pos 0) (pos 1048575) (pos (upper_part z)) ≡ Ok (pos (upper_part z))
upper_ranged z below =
    let least : 0 ≤ upper_part z = omega arith in
    ranged_taken (pos 0) (pos 1048575) (pos (upper_part z)) (record { le = le→leb 0 (upper_part z) least }) (record { le = le→leb (upper_part z) 1048575 (upper_below z below) })
