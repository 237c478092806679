-- Hexadecimal digits that are written and read.
use Rattle.std.proofs.Common.{◌≡◌, ◌<◌, ◌≤◌, ◌-◌, ◌/◌, ◌%◌, ◌^◌, ◌∙◌, ◌&&◌, ◌||◌, ◌==◌, ◌⊎◌, inl, inr, ne_eqb, nat_le, ℕ, suc, zero, Bool, true, false, refl, sym, ap, subst, arith, List, [], ◌∷◌, ◌++◌, length, drop, cond, Result, Ok, Err, true≢false}
use Rattle.std.specs.List.{list_all}
use Rattle.std.proofs.lemmas.Bool.{leb-true}
use Rattle.std.specs.Char.{digit_value, is_ascii_digit}
use Rattle.std.specs.Str.Parse.{AllDigits, IsNumeral, ParsesUnsigned, digits_value, without_leading_plus}
use Rattle.std.proofs.lemmas.Int.Digits.{digits_value-lt}
use Rattle.rvmc_starts.specs.Hex.{hex_digit, hex_text, is_hex_digit}

pub both : (a b : Bool) → (a && b) ≡ true → (a ≡ true) × (b ≡ true)
both true b e = (refl, e)
both false b e = absurd (true≢false (sym e))

-- one digit more
pub hex_step : (digits number : ℕ) → ¬ (digits ≡ 0)
    → hex_text digits number ≡ hex_text (digits - 1) (number / 16) ++ hex_digit (number % 16) ∷ []
hex_step zero number some = absurd (some refl)
hex_step (suc digits) number some =
    let one_less : suc digits - 1 ≡ digits = omega arith in
    rw one_less refl

decimal_small : (d : ℕ) → 48 ≤ d → d ≤ 57 → digit_value d < 16
decimal_small d low high = grind arith

letter_small : (d : ℕ) → 97 ≤ d → d ≤ 102 → digit_value d < 16
letter_small d low high = grind arith

-- a digit is one of two kinds
kinds : (d : ℕ) → is_hex_digit d ≡ true → ((48 ≤ d) × (d ≤ 57)) ⊎ ((97 ≤ d) × (d ≤ 102))
kinds d e = go _ refl
  where
    go : (b : Bool) → is_ascii_digit d ≡ b → ((48 ≤ d) × (d ≤ 57)) ⊎ ((97 ≤ d) × (d ≤ 102))
    go true is =
        let bounds = both (nat_le 48 d) (nat_le d 57) is in
        inl (leb-true 48 d bounds.0, leb-true d 57 bounds.1)
    go false is =
        let letter : (nat_le 97 d && nat_le d 102) ≡ true = ap (λ b. b || (nat_le 97 d && nat_le d 102)) (sym is) ∙ e in
        let bounds = both (nat_le 97 d) (nat_le d 102) letter in
        inr (leb-true 97 d bounds.0, leb-true d 102 bounds.1)

digit_small : (d : ℕ) → is_hex_digit d ≡ true → digit_value d < 16
digit_small d e = elim (kinds d e) [ inl h ↦ decimal_small d h.0 h.1 | inr h ↦ letter_small d h.0 h.1 ]

pub all_digits : (ds : List ℕ) → list_all is_hex_digit ds ≡ true → AllDigits 16 ds
all_digits [] e = tt
all_digits (d ∷ ds) e =
    let parts = both (is_hex_digit d) (list_all is_hex_digit ds) e in
    (digit_small d parts.0, all_digits ds parts.1)

digit_no_plus : (d : ℕ) → is_hex_digit d ≡ true → (d == 43) ≡ false
digit_no_plus d e = elim (kinds d e) [ inl h ↦ ne_eqb d 43 (λ same. omega (arith, h.0, same)) | inr h ↦ ne_eqb d 43 (λ same. omega (arith, h.0, same)) ]

no_plus : (ds : List ℕ) → list_all is_hex_digit ds ≡ true → without_leading_plus ds ≡ ds
no_plus [] e = refl
no_plus (d ∷ ds) e =
    ap (λ b. drop (cond b 1 0) (d ∷ ds)) (digit_no_plus d (both (is_hex_digit d) (list_all is_hex_digit ds) e).0)

-- 16 digits are read
pub read : {E : Type 0} (ds : List ℕ) (r : Result ℕ E) → length ds ≡ 16 → list_all is_hex_digit ds ≡ true → ParsesUnsigned 64 16 ds r
    → r ≡ Ok (digits_value 16 ds)
read ds (Ok n) long digits h = ap Ok (h.1 ∙ ap (digits_value 16) (no_plus ds digits))
read ds (Err e) long digits h =
    let all = all_digits ds digits in
    let below : digits_value 16 ds < 16 ^ length ds = digits_value-lt 16 ds all in
    let fits : digits_value 16 ds < 2 ^ 64 = subst (λ k. digits_value 16 ds < 16 ^ k) long below in
    let some : 0 < length ds = omega (arith, long) in
    absurd (h (subst (λ t. IsNumeral 16 t × (digits_value 16 t < 2 ^ 64)) (sym (no_plus ds digits)) ((some, all), fits)))
