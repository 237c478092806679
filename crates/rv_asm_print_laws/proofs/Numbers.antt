-- Numbers, read as tokens.
use Rattle.std.proofs.Common.{◌≡◌, ℕ, suc, ◌+◌, ◌*◌, ◌^◌, ◌<◌, ◌≤◌, List, [], ◌∷◌, ◌++◌, length, true, false, ◌&&◌, Some, Ok, ℤ, pos, negsuc, neg_ℤ, codes, ◌==◌, refl, ap, ◌∙◌, subst, arith, tests, lit≤, le-leb, le_trans, lt_of_le_of_lt}
use Rattle.std.proofs.Math.Seq.{take-append_seam}
use Rattle.std.proofs.lemmas.Fmt.{digits_is_IsNumeral, decimal_is_IsNumeral}
use Rattle.std.specs.Fmt.{digits, decimal, signed_decimal}
use Rattle.std.specs.List.{list_all}
use Rattle.std.specs.Str.Parse.{AllDigits, digits_value, digits_value_after}
use Rattle.std.specs.Char.{digit_value as value_of_char}
use Rattle.rv_asm_tokens.specs.Lexeme.{Lexeme, number}
use Rattle.rv_asm_tokens.specs.Digits.{is_digit, with_digit, digits_from, magnitude}
use Rattle.rv_asm_tokens.specs.Scan.{is_name_byte, word_length, piece, negative_front, front_at, tokens_from}
use Rattle.rv_asm_print_laws.proofs.Branches.{both_hold}
use Rattle.rv_asm_print_laws.proofs.Words.{reach, front_of_digit, digit_read, digit_name, Reads, front_leaves, front_word}

-- ---- the number that digits spell

grows_step : (base v d : ℕ) → 1 ≤ base → v ≤ v * base + d
grows_step base v d h = grind arith

grows : (base v : ℕ) (ds : List ℕ) → 1 ≤ base → v ≤ digits_value_after base v ds
grows base v [] h = omega arith
grows base v (c ∷ cs) h = le_trans (grows_step base v (value_of_char c) h) (grows base (v * base + value_of_char c) cs h)

one_more : (base v c : ℕ) → base ≤ 16 → value_of_char c < base → v * base + value_of_char c < 2 ^ 64 → with_digit base v c ≡ Some (v * base + value_of_char c)
unfolding with_digit
one_more base v c small digit below = rw (digit_read base c small digit) (grind (arith, tests))

pub spelled : (base v : ℕ) (ds : List ℕ) → 1 ≤ base → base ≤ 16 → AllDigits base ds → digits_value_after base v ds < 2 ^ 64 → digits_from base v ds ≡ Some (digits_value_after base v ds)
unfolding digits_from
spelled base v [] low small all below = refl
spelled base v (c ∷ cs) low small all below =
    rw (one_more base v c small all.0 (lt_of_le_of_lt (grows base (v * base + value_of_char c) cs low) below)) (spelled base (v * base + value_of_char c) cs low small all.1 below)

-- ---- words of digits

not_hex : (c d : ℕ) → value_of_char d < 10 → ((c == 48) && (d == 120)) ≡ false
not_hex c d h = grind (arith, tests)

decimal_magnitude : (ds : List ℕ) → 0 < length ds → AllDigits 10 ds → digits_value 10 ds < 2 ^ 64 → magnitude ds ≡ Some (digits_value 10 ds)
unfolding magnitude
decimal_magnitude [] some all below = absurd (omega arith)
decimal_magnitude (c ∷ []) some all below = spelled 10 0 (c ∷ []) (lit≤ tt) (lit≤ tt) all below
decimal_magnitude (c ∷ d ∷ []) some all below = spelled 10 0 (c ∷ d ∷ []) (lit≤ tt) (lit≤ tt) all below
decimal_magnitude (c ∷ d ∷ e ∷ es) some all below = rw (not_hex c d all.1.0) (spelled 10 0 (c ∷ d ∷ e ∷ es) (lit≤ tt) (lit≤ tt) all below)

hex_magnitude : (ds : List ℕ) → 0 < length ds → AllDigits 16 ds → digits_value 16 ds < 2 ^ 64 → magnitude (48 ∷ 120 ∷ ds) ≡ Some (digits_value 16 ds)
unfolding magnitude
hex_magnitude [] some all below = absurd (omega arith)
hex_magnitude (d ∷ ds) some all below = spelled 16 0 (d ∷ ds) (lit≤ tt) (lit≤ tt) all below

digit_names : (base : ℕ) (ds : List ℕ) → base ≤ 16 → AllDigits base ds → list_all is_name_byte ds ≡ true
digit_names base [] small all = refl
digit_names base (c ∷ cs) small all = both_hold (is_name_byte c) (list_all is_name_byte cs) (digit_name c (omega (arith, all.0))) (digit_names base cs small all.1)

first_digit : (c : ℕ) → value_of_char c < 10 → is_digit c ≡ true
first_digit c h = grind (arith, tests)

-- ---- tokens

number_tokens : (c : ℕ) (cs : List ℕ) (n : ℕ) → is_digit c ≡ true → list_all is_name_byte cs ≡ true → magnitude (c ∷ cs) ≡ Some n → (done : List Lexeme) (rest : List ℕ) → word_length rest ≡ 0 → tokens_from 0 done ((c ∷ cs) ++ rest) ≡ tokens_from 0 (done ++ number (pos n) ∷ []) rest
number_tokens c cs n first all spells done rest stop =
    front_leaves c cs rest done (number (pos n)) (front_of_digit c (c ∷ (cs ++ rest)) (cs ++ rest) first ∙ rw (front_word c cs rest all stop, spells, reach cs rest all stop) refl)

minus_front : (ds rest : List ℕ) (n : ℕ) → list_all is_name_byte ds ≡ true → magnitude ds ≡ Some n → n ≤ 2 ^ 63 → word_length rest ≡ 0 → negative_front (ds ++ rest) ≡ Ok (piece (number (neg_ℤ (pos n))) (length ds))
minus_front ds rest n all spells low stop = rw (reach ds rest all stop, take-append_seam ds rest, spells, le-leb n (2 ^ 63) low) refl

minus_tokens : (ds : List ℕ) (n : ℕ) → list_all is_name_byte ds ≡ true → magnitude ds ≡ Some n → n ≤ 2 ^ 63 → (done : List Lexeme) (rest : List ℕ) → word_length rest ≡ 0 → tokens_from 0 done ((45 ∷ ds) ++ rest) ≡ tokens_from 0 (done ++ number (neg_ℤ (pos n)) ∷ []) rest
unfolding front_at
minus_tokens ds n all spells low done rest stop = front_leaves 45 ds rest done (number (neg_ℤ (pos n))) (minus_front ds rest n all spells low stop)

-- ---- what is printed

digits_reads : (ds : List ℕ) → 0 < length ds → AllDigits 10 ds → digits_value 10 ds < 2 ^ 64 → Reads ds (number (pos (digits_value 10 ds)) ∷ [])
digits_reads [] some all below = absurd (omega arith)
digits_reads (c ∷ cs) some all below = record { tokens = number_tokens c cs (digits_value 10 (c ∷ cs)) (first_digit c all.0) (digit_names 10 cs (lit≤ tt) all.1) (decimal_magnitude (c ∷ cs) some all below) }

pub decimal_reads : (n : ℕ) → n < 2 ^ 64 → Reads (decimal n) (number (pos n) ∷ [])
decimal_reads n small =
    let k = decimal_is_IsNumeral n small in
    subst (λ (m : ℕ). Reads (decimal n) (number (pos m) ∷ [])) k.1 (digits_reads (decimal n) k.0.0 k.0.1 (rw k.1 small))

-- a number that a sign may stand before, and whose magnitude has 63 bits
abbrev pub IsSmall : ℤ → Type 0
IsSmall (pos n) = n < 2 ^ 63
IsSmall (negsuc n) = n < 2 ^ 63

pub signed_reads : (z : ℤ) → IsSmall z → Reads (signed_decimal z) (number z ∷ [])
signed_reads (pos n) small = decimal_reads n (omega arith)
signed_reads (negsuc n) small =
    let below : suc n < 2 ^ 64 = omega arith in
    let k = decimal_is_IsNumeral (suc n) below in
    let spells : magnitude (decimal (suc n)) ≡ Some (suc n) = decimal_magnitude (decimal (suc n)) k.0.0 k.0.1 (rw k.1 below) ∙ ap Some k.1 in
    record { tokens = minus_tokens (decimal (suc n)) (suc n) (digit_names 10 (decimal (suc n)) (lit≤ tt) k.0.1) spells small }

pub hex_reads : (n : ℕ) → n < 2 ^ 64 → Reads (codes "0x" ++ digits 16 false n) (number (pos n) ∷ [])
hex_reads n small =
    let k = digits_is_IsNumeral 16 false (lit≤ tt) (lit≤ tt) n (omega arith) in
    let ds = digits 16 false n in
    let spells : magnitude (48 ∷ 120 ∷ ds) ≡ Some n = hex_magnitude ds k.0.0 k.0.1 (rw k.1 small) ∙ ap Some k.1 in
    record { tokens = number_tokens 48 (120 ∷ ds) n refl (digit_names 16 ds (lit≤ tt) k.0.1) spells }

-- the digits of a number are bytes of names
pub decimal_names : (n : ℕ) → n < 2 ^ 64 → list_all is_name_byte (decimal n) ≡ true
decimal_names n small = digit_names 10 (decimal n) (lit≤ tt) (decimal_is_IsNumeral n small).0.1

pub hex_names : (n : ℕ) → n < 2 ^ 64 → list_all is_name_byte (codes "0x" ++ digits 16 false n) ≡ true
hex_names n small = digit_names 16 (digits 16 false n) (lit≤ tt) (digits_is_IsNumeral 16 false (lit≤ tt) (lit≤ tt) n (omega arith)).0.1
