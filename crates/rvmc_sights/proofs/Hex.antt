-- The digits of a number in hex, one after another.
use Rattle.std.proofs.Common.{◌≡◌, ℕ, zero, suc, ◌+◌, ◌/◌, ◌%◌, ◌^◌, ◌<◌, ◌≤◌, false, cond, inl, inr, List, [], ◌∷◌, ◌++◌, length, refl, sym, ap, ◌∙◌, arith, append_assoc, length-append, eq-zero-or-pos}
use Rattle.std.proofs.lemmas.Bool.{eq-eqb, ne_eqb}
use Rattle.std.specs.Fmt.{decimal, digit_glyph, digits, digits_onto}
use Rattle.std.proofs.lemmas.Fmt.{length-decimal-le}

abbrev spell : ℕ → ℕ → List ℕ → List ℕ
spell k n acc = digits_onto k 16 false n acc

abbrev last_digit : ℕ → ℕ
last_digit n = digit_glyph false (n % 16)

spelled : (n : ℕ) → spell 64 n [] ≡ digits 16 false n
unfolding digits
spelled n = refl

spell_last : (k n : ℕ) (acc : List ℕ) → n / 16 ≡ 0 → spell (suc k) n acc ≡ last_digit n ∷ acc
spell_last k n acc h =
    ap (λ t. cond t (last_digit n ∷ acc) (spell k (n / 16) (last_digit n ∷ acc))) (eq-eqb (n / 16) 0 h)

spell_next : (k n : ℕ) (acc : List ℕ) → 0 < n / 16 → spell (suc k) n acc ≡ spell k (n / 16) (last_digit n ∷ acc)
spell_next k n acc h =
    ap (λ t. cond t (last_digit n ∷ acc) (spell k (n / 16) (last_digit n ∷ acc))) (ne_eqb (n / 16) 0 (λ e. omega arith))

spell_behind : (k n : ℕ) (acc : List ℕ) → spell k n acc ≡ spell k n [] ++ acc
spell_behind zero n acc = refl
spell_behind (suc k) n acc =
    elim (eq-zero-or-pos (n / 16)) [
      | inl z ↦ spell_last k n acc z ∙ ap (λ x. x ++ acc) (sym (spell_last k n [] z))
      | inr more ↦ spell_next k n acc more ∙ spell_behind k (n / 16) (last_digit n ∷ acc)
          ∙ sym (append_assoc (spell k (n / 16) []) (last_digit n ∷ []) acc)
          ∙ ap (λ x. x ++ acc) (sym (spell_next k n [] more ∙ spell_behind k (n / 16) (last_digit n ∷ [])))
    ]

-- turns that are too many change nothing
spell_enough : (j k n : ℕ) (acc : List ℕ) → n < 16 ^ suc j → n < 16 ^ suc k → spell (suc j) n acc ≡ spell (suc k) n acc
spell_enough zero k n acc p q = spell_last zero n acc (omega arith) ∙ sym (spell_last k n acc (omega arith))
spell_enough (suc j) zero n acc p q = spell_last (suc j) n acc (omega arith) ∙ sym (spell_last zero n acc (omega arith))
spell_enough (suc j) (suc k) n acc p q =
    elim (eq-zero-or-pos (n / 16)) [
      | inl z ↦ spell_last (suc j) n acc z ∙ sym (spell_last (suc k) n acc z)
      | inr more ↦ spell_next (suc j) n acc more
          ∙ spell_enough j k (n / 16) (last_digit n ∷ acc) (omega arith) (omega arith)
          ∙ sym (spell_next (suc k) n acc more)
    ]

-- the last digit, and those before it
pub hex_last : (n : ℕ) → n < 16 → digits 16 false n ≡ digit_glyph false n ∷ []
hex_last n h =
    let same : n % 16 ≡ n = omega arith in
    sym (spelled n) ∙ spell_last 63 n [] (omega arith) ∙ ap (λ d. digit_glyph false d ∷ []) same

pub hex_step : (n : ℕ) → 16 ≤ n → n < 2 ^ 64
    → digits 16 false n ≡ digits 16 false (n / 16) ++ (digit_glyph false (n % 16) ∷ [])
hex_step n h small =
    sym (spelled n) ∙ spell_next 63 n [] (omega arith)
    ∙ spell_enough 62 63 (n / 16) (last_digit n ∷ []) (omega arith) (omega arith)
    ∙ spell_behind 64 (n / 16) (last_digit n ∷ []) ∙ ap (λ ds. ds ++ (last_digit n ∷ [])) (spelled (n / 16))

pub long_last : (n : ℕ) → n < 16 → length (digits 16 false n) ≡ 1
long_last n h = ap length (hex_last n h)

pub long_step : (n : ℕ) → 16 ≤ n → n < 2 ^ 64 → length (digits 16 false n) ≡ length (digits 16 false (n / 16)) + 1
long_step n h small =
    ap length (hex_step n h small) ∙ length-append (digits 16 false (n / 16)) (digit_glyph false (n % 16) ∷ [])

-- 16 at most
short_within : (k n : ℕ) → n < 16 ^ suc k → n < 2 ^ 64 → length (digits 16 false n) ≤ suc k
short_within zero n h small = omega (arith, long_last n (omega arith))
short_within (suc k) n h small =
    elim (eq-zero-or-pos (n / 16)) [
      | inl z ↦ omega (arith, long_last n (omega arith))
      | inr more ↦ omega (arith, short_within k (n / 16) (omega arith) (omega arith), long_step n (omega arith) small)
    ]

pub hex_short : (n : ℕ) → n < 2 ^ 64 → length (digits 16 false n) ≤ 16
hex_short n small = short_within 15 n (omega arith) small

pub decimal_short : (n : ℕ) → n < 2 ^ 64 → length (decimal n) ≤ 20
decimal_short n small = length-decimal-le 20 n (omega arith) (omega arith) (omega arith)
