-- The bytes of data are those of its numbers.
use Rattle.std.proofs.Common.{◌≡◌, ℕ, zero, suc, ◌+◌, ◌-◌, ◌*◌, ◌/◌, ◌%◌, ◌^◌, ◌<◌, ◌≤◌, List, [], ◌∷◌, ◌++◌, replicate, Ok, true, ℤ, pos, negsuc, neg_ℤ, ◌+ℤ◌, refl, sym, ap, subst, ◌∙◌, arith, tests, leb}
use Rattle.std.specs.Prelude.{All}
use Rattle.std.proofs.lemmas.Int.{ints}
use Rattle.std.proofs.lemmas.List.Elements.{All-cons, All-nil}
use Rattle.std.proofs.lemmas.Nat.{from_le_bytes-to_le_bytes_2, from_le_bytes-to_le_bytes_4, from_le_bytes-to_le_bytes_8}
use Rattle.std.specs.Int.{w8, w16, w32, w64, from_le_bytes, to_le_bytes}
use Rattle.rv_asm_tokens.proofs.Characters.{both}
use Rattle.rv_asm_tokens.specs.Fault.{◌>>=◌}
use Rattle.rv_asm_statements.specs.declared.directives.Directive.TheVariants as directive
use Rattle.rv_asm_statements.specs.declared.directives.Width.{Width}
use Rattle.rv_asm_statements.specs.declared.directives.Width.TheVariants.{Byte, Half, Word, Double}
use Rattle.rv_asm_statements.specs.declared.filled.Target.{Target as Goal}
use Rattle.rv_asm_lines.specs.Data.{directive_bytes, item_bytes, item_ranged, items_bytes, low_bytes}
use Rattle.rv_asm_lines.specs.Parts.{alignment_bytes, padding, width_bytes}
use Rattle.rv_asm_lines.specs.Resolved.{goal_offset, is_between}
use Rattle.rv_asm.specs.Holding.{DataHoldNumbers, HoldItems, HoldsNumber, bits_of}
use Rattle.rv_asm.specs.Reached.{IsNamedAt}
use Rattle.rv_asm.proofs.Lengths.{ranged-between}
use Rattle.rv_asm.proofs.Reaching.{offset_named}
use Rattle.rv_asm.proofs.Right.{bind_ok, ok, ok_is}

-- ---- numbers

at_most : (m n : ℕ) → leb m n ≡ true → m ≤ n
at_most m n h = grind (arith, tests)

byte_natural : (m : ℕ) → m < 2 ^ 8 → from_le_bytes w8 (low_bytes 1 (pos m)) ≡ m
unfolding low_bytes
byte_natural m h = omega arith

half_natural : (m : ℕ) → m < 2 ^ 16 → from_le_bytes w16 (low_bytes 2 (pos m)) ≡ m
unfolding low_bytes
half_natural m h = from_le_bytes-to_le_bytes_2 m h

word_natural : (m : ℕ) → m < 2 ^ 32 → from_le_bytes w32 (low_bytes 4 (pos m)) ≡ m
unfolding low_bytes
word_natural m h = from_le_bytes-to_le_bytes_4 m h

double_natural : (m : ℕ) → m < 2 ^ 64 → from_le_bytes w64 (low_bytes 8 (pos m)) ≡ m
unfolding low_bytes
double_natural m h = from_le_bytes-to_le_bytes_8 m h

byte_negative : (k : ℕ) → k < 2 ^ 7 → from_le_bytes w8 (low_bytes 1 (negsuc k)) ≡ 2 ^ 8 - suc k
unfolding low_bytes
byte_negative k h = omega arith

-- the low bytes do not see what stands above them
half_bytes : (c y : ℕ) → to_le_bytes w16 (y + c * 65536) ≡ to_le_bytes w16 y
half_bytes c y =
    let b0 : (y + c * 65536) % 256 ≡ y % 256 = omega arith in
    let b1 : (y + c * 65536) / 256 % 256 ≡ y / 256 % 256 = omega arith in
    rw (b0, b1) refl

word_bytes : (c y : ℕ) → to_le_bytes w32 (y + c * 4294967296) ≡ to_le_bytes w32 y
word_bytes c y =
    let b0 : (y + c * 4294967296) % 256 ≡ y % 256 = omega arith in
    let b1 : (y + c * 4294967296) / 256 % 256 ≡ y / 256 % 256 = omega arith in
    let b2 : (y + c * 4294967296) / 65536 % 256 ≡ y / 65536 % 256 = omega arith in
    let b3 : (y + c * 4294967296) / 16777216 % 256 ≡ y / 16777216 % 256 = omega arith in
    rw (b0, b1, b2, b3) refl

double_bytes : (c y : ℕ) → to_le_bytes w64 (y + c * 18446744073709551616) ≡ to_le_bytes w64 y
double_bytes c y =
    let b0 : (y + c * 18446744073709551616) % 256 ≡ y % 256 = omega arith in
    let b1 : (y + c * 18446744073709551616) / 256 % 256 ≡ y / 256 % 256 = omega arith in
    let b2 : (y + c * 18446744073709551616) / 65536 % 256 ≡ y / 65536 % 256 = omega arith in
    let b3 : (y + c * 18446744073709551616) / 16777216 % 256 ≡ y / 16777216 % 256 = omega arith in
    let b4 : (y + c * 18446744073709551616) / 4294967296 % 256 ≡ y / 4294967296 % 256 = omega arith in
    let b5 : (y + c * 18446744073709551616) / 1099511627776 % 256 ≡ y / 1099511627776 % 256 = omega arith in
    let b6 : (y + c * 18446744073709551616) / 281474976710656 % 256 ≡ y / 281474976710656 % 256 = omega arith in
    let b7 : (y + c * 18446744073709551616) / 72057594037927936 % 256 ≡ y / 72057594037927936 % 256 = omega arith in
    rw (b0, b1, b2, b3, b4, b5, b6, b7) refl

half_negative : (k : ℕ) → k < 2 ^ 15 → from_le_bytes w16 (low_bytes 2 (negsuc k)) ≡ 2 ^ 16 - suc k
unfolding low_bytes
half_negative k h =
    let parted : 2 ^ 128 - suc k ≡ (65536 - suc k) + 5192296858534827628530496329220095 * 65536 = omega arith in
    let small : 65536 - suc k < 2 ^ 16 = omega arith in
    ap (λ (x : ℕ). from_le_bytes w16 (to_le_bytes w16 x)) parted ∙ ap (from_le_bytes w16) (half_bytes 5192296858534827628530496329220095 (65536 - suc k)) ∙ from_le_bytes-to_le_bytes_2 (65536 - suc k) small

word_negative : (k : ℕ) → k < 2 ^ 31 → from_le_bytes w32 (low_bytes 4 (negsuc k)) ≡ 2 ^ 32 - suc k
unfolding low_bytes
word_negative k h =
    let parted : 2 ^ 128 - suc k ≡ (4294967296 - suc k) + 79228162514264337593543950335 * 4294967296 = omega arith in
    let small : 4294967296 - suc k < 2 ^ 32 = omega arith in
    ap (λ (x : ℕ). from_le_bytes w32 (to_le_bytes w32 x)) parted ∙ ap (from_le_bytes w32) (word_bytes 79228162514264337593543950335 (4294967296 - suc k)) ∙ from_le_bytes-to_le_bytes_4 (4294967296 - suc k) small

double_negative : (k : ℕ) → k < 2 ^ 63 → from_le_bytes w64 (low_bytes 8 (negsuc k)) ≡ 2 ^ 64 - suc k
unfolding low_bytes
double_negative k h =
    let parted : 2 ^ 128 - suc k ≡ (18446744073709551616 - suc k) + 18446744073709551615 * 18446744073709551616 = omega arith in
    let small : 18446744073709551616 - suc k < 2 ^ 64 = omega arith in
    ap (λ (x : ℕ). from_le_bytes w64 (to_le_bytes w64 x)) parted ∙ ap (from_le_bytes w64) (double_bytes 18446744073709551615 (18446744073709551616 - suc k)) ∙ from_le_bytes-to_le_bytes_8 (18446744073709551616 - suc k) small

-- a number within its bounds is what its bytes hold
holds_number : (width : Width) (z y : ℤ) → item_ranged (width_bytes width) z ≡ Ok y → HoldsNumber (bits_of width) z (low_bytes (width_bytes width) y)
unfolding low_bytes
holds_number width z y h =
    let r = ranged-between _ _ z y h in
    subst (λ (k : ℤ). HoldsNumber (bits_of width) z (low_bytes (width_bytes width) k)) (sym r.1) (go width z r.0)
  where
    go : (width : Width) (z : ℤ) → is_between (neg_ℤ (pos (2 ^ (8 * width_bytes width - 1)))) (pos (2 ^ (8 * width_bytes width) - 1)) z ≡ true → HoldsNumber (bits_of width) z (low_bytes (width_bytes width) z)
    go Byte (pos m) h = record { many = refl; value = byte_natural m (omega (arith, at_most m 255 h)) }
    go Byte (negsuc k) h = record { many = refl; value = byte_negative k (omega (arith, at_most k 127 ((both (leb k 127) true h).0))) }
    go Half (pos m) h = record { many = refl; value = half_natural m (omega (arith, at_most m 65535 h)) }
    go Half (negsuc k) h = record { many = refl; value = half_negative k (omega (arith, at_most k 32767 ((both (leb k 32767) true h).0))) }
    go Word (pos m) h = record { many = refl; value = word_natural m (omega (arith, at_most m 4294967295 h)) }
    go Word (negsuc k) h = record { many = refl; value = word_negative k (omega (arith, at_most k 2147483647 ((both (leb k 2147483647) true h).0))) }
    go Double (pos m) h = record { many = refl; value = double_natural m (omega (arith, at_most m 18446744073709551615 h)) }
    go Double (negsuc k) h = record { many = refl; value = double_negative k (omega (arith, at_most k 9223372036854775807 ((both (leb k 9223372036854775807) true h).0))) }

-- ---- items

from_nothing : (z : ℤ) → pos 0 +ℤ z ≡ z
from_nothing z = omega (arith, ints)

item_named : (labels : List (List ℕ × ℕ)) (goal : Goal) (z : ℤ) → goal_offset labels 0 goal ≡ Ok z → IsNamedAt labels 0 goal.label goal.number z
item_named labels goal z h = subst (λ (k : ℤ). IsNamedAt labels 0 goal.label goal.number k) (from_nothing z) (offset_named labels 0 goal.number goal.label z h)

items_hold : (labels : List (List ℕ × ℕ)) (width : Width) (items : List Goal) (bytes : List ℕ) → items_bytes labels width items ≡ Ok bytes → HoldItems labels width items bytes
unfolding items_bytes item_bytes
items_hold labels width [] bytes h = sym (ok_is [] bytes h)
items_hold labels width (item ∷ items) bytes h =
    let a = bind_ok (item_bytes labels width item) (λ here. items_bytes labels width items >>= λ more. ok (here ++ more)) bytes h in
    let b = bind_ok (items_bytes labels width items) (λ more. ok (a.value ++ more)) bytes a.second in
    let c = bind_ok (goal_offset labels 0 item) (λ z. item_ranged (width_bytes width) z >>= λ y. ok (low_bytes (width_bytes width) y)) a.value a.first in
    let d = bind_ok (item_ranged (width_bytes width) c.value) (λ y. ok (low_bytes (width_bytes width) y)) a.value c.second in
    let number : HoldsNumber (bits_of width) c.value a.value = subst (λ (l : List ℕ). HoldsNumber (bits_of width) c.value l) (ok_is (low_bytes (width_bytes width) d.value) a.value d.second) (holds_number width c.value d.value d.first) in
    (a.value, b.value, c.value, sym (ok_is (a.value ++ b.value) bytes b.second), item_named labels item c.value c.first, number, items_hold labels width items b.value b.first)

-- ---- directives

all_zeros : (n : ℕ) → All (λ (b : ℕ). b ≡ 0) (replicate n 0)
all_zeros zero = All-nil (λ (b : ℕ). b ≡ 0)
all_zeros (suc n) = All-cons (λ (b : ℕ). b ≡ 0) 0 (replicate n 0) refl (all_zeros n)

zeros : (n : ℕ) (bytes : List ℕ) → replicate n 0 ≡ bytes → All (λ (b : ℕ). b ≡ 0) bytes
zeros n bytes h = subst (λ (l : List ℕ). All (λ (b : ℕ). b ≡ 0) l) h (all_zeros n)

pub data_hold_numbers : DataHoldNumbers
unfolding directive_bytes
data_hold_numbers labels at (directive.Items width items) bytes h = items_hold labels width items bytes h
data_hold_numbers labels at (directive.Bytes text) bytes h = sym (ok_is text bytes h)
data_hold_numbers labels at (directive.Zero n) bytes h = zeros n bytes (ok_is (replicate n 0) bytes h)
data_hold_numbers labels at (directive.Align n) bytes h = zeros (padding (alignment_bytes n) at) bytes (ok_is (replicate (padding (alignment_bytes n) at) 0) bytes h)
data_hold_numbers labels at (directive.Ranks n) bytes h = sym (ok_is [] bytes h)
data_hold_numbers labels at (directive.Harts n) bytes h = sym (ok_is [] bytes h)
data_hold_numbers labels at (directive.Memory n) bytes h = sym (ok_is [] bytes h)
data_hold_numbers labels at (directive.Entry w) bytes h = sym (ok_is [] bytes h)
data_hold_numbers labels at (directive.Comm zs) bytes h = sym (ok_is [] bytes h)
data_hold_numbers labels at (directive.Link from to) bytes h = sym (ok_is [] bytes h)
data_hold_numbers labels at directive.Text bytes h = sym (ok_is [] bytes h)
data_hold_numbers labels at directive.Data bytes h = sym (ok_is [] bytes h)
data_hold_numbers labels at (directive.Global w) bytes h = sym (ok_is [] bytes h)
