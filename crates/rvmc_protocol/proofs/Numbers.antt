-- What is read digit by digit is the number that the digits write.
use Rattle.std.specs.Prelude.{nat_lt, if◌then◌else◌}
use Rattle.std.proofs.Common.{◌≡◌, ◌<◌, ◌≤◌, ◌&&◌, ℕ, Bool, true, false, refl, sym, arith, List, [], ◌∷◌, length, Some, None, lt-ltb, le-ltb}
use Rattle.std.specs.List.{list_all}
use Rattle.std.specs.Char.{digit_value, is_digit}
use Rattle.std.specs.Fmt.{digits}
use Rattle.std.specs.Str.Parse.{AllDigits, digits_value}
use Rattle.std.proofs.lemmas.Fmt.{digits_is_IsNumeral}
use Rattle.rvmc_protocol.specs.Requests.Pieces.{number_in}

abbrev limit : ℕ
limit = 18446744073709551616

digits_pass : (text : List ℕ) → AllDigits 16 text → list_all (λ d. is_digit d 16) text ≡ true
digits_pass [] h = refl
digits_pass (d ∷ text) h = rw (lt-ltb (digit_value d) 16 h.0) (digits_pass text h.1)

pub read : (text : List ℕ) (number : ℕ) → AllDigits 16 text → 0 < length text → number ≡ digits_value 16 text → number < limit
    → Some number ≡ number_in text
unfolding number_in
read text number all some is small =
    let value : digits_value 16 text < limit = omega arith in
    rw (digits_pass text all, lt-ltb 0 (length text) some, lt-ltb (digits_value 16 text) limit value, is) refl

pub no_digit : (text : List ℕ) → list_all (λ d. is_digit d 16) text ≡ false → None ≡ number_in text
unfolding number_in
no_digit text h = rw h refl

pub nothing : (text : List ℕ) → length text ≡ 0 → None ≡ number_in text
unfolding number_in
nothing [] h = refl
nothing (d ∷ text) h = absurd (omega (arith, h))

pub too_large : (text : List ℕ) → limit ≤ digits_value 16 text → None ≡ number_in text
unfolding number_in
too_large text h =
    rw (le-ltb (digits_value 16 text) limit h) (go (list_all (λ d. is_digit d 16) text) (nat_lt 0 (length text)))
  where
    go : (a b : Bool) → None ≡ (if (a && (b && false)) then Some (digits_value 16 text) else None)
    go true true = refl
    go true false = refl
    go false b = refl

-- the digits that are written of a number are read as that number
pub again : (n : ℕ) → n < limit → number_in (digits 16 false n) ≡ Some n
again n small =
    let numeral = digits_is_IsNumeral 16 false (omega arith) (omega arith) n (omega arith) in
    sym (read (digits 16 false n) n numeral.0.1 numeral.0.0 (sym numeral.1) small)
