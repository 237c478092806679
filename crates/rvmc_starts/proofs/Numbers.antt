-- Numbers that are written are read back.
use Rattle.std.proofs.Common.{◌≡◌, ◌<◌, ◌≤◌, ◌+◌, ◌/◌, ◌%◌, ◌^◌, ◌∙◌, ◌==◌, ℕ, suc, zero, Bool, true, false, refl, ap, arith, List, [], ◌∷◌, length, map, Some, nat_lt, lt-ltb, ltb-true, ltb-false, eq-eqb, length-append}
use Rattle.std.proofs.lemmas.Bool.{le-leb, lt-leb}
use Rattle.std.specs.Fmt.{decimal}
use Rattle.std.specs.List.{list_all}
use Rattle.std.specs.Char.{digit_value, is_digit}
use Rattle.std.specs.Str.Parse.{AllDigits, digits_value}
use Rattle.std.proofs.lemmas.Fmt.{decimal_is_IsNumeral}
use Rattle.std.proofs.lemmas.Int.Digits.{digits_value_push}
use Rattle.std.proofs.lemmas.List.Folds.{list_all-append}
use Rattle.rvmc_words.specs.Number.{each_number, number_in, numbers_in}
use Rattle.rvmc_starts.specs.Hex.{hex_digit, hex_in, hex_text, hex_word, is_hex_digit}
use Rattle.rvmc_starts.specs.Starts.{AreBytes, numbers_text}
use Rattle.rvmc_starts.specs.Sums.{any_number}
use Rattle.rvmc_starts.proofs.Separators.{EachLacks, cut_list, lacks, lacks_digits, lacks_list}
use Rattle.rvmc_starts.proofs.Hexes.{all_digits}

-- ---- in decimal

digits_pass : (base : ℕ) (ds : List ℕ) → AllDigits base ds → list_all (λ d. is_digit d base) ds ≡ true
digits_pass base [] h = refl
digits_pass base (d ∷ ds) h = rw (lt-ltb (digit_value d) base h.0) (digits_pass base ds h.1)

pub number_back : (least most number : ℕ) → least ≤ number → number ≤ most → number < 2 ^ 64
    → number_in least most (decimal number) ≡ Some number
unfolding number_in
number_back least most number low high fits =
    let is = decimal_is_IsNumeral number fits in
    rw (lt-ltb 0 (length (decimal number)) is.0.0, digits_pass 10 (decimal number) is.0.1, is.1, le-leb least number low, le-leb number most high) refl

pub any_back : (number : ℕ) → number < 2 ^ 64 → any_number (decimal number) ≡ Some number
any_back number fits = number_back 0 18446744073709551615 number (omega arith) (omega (arith, fits)) fits

-- what is no digit isn't in a number
pub lacks_decimal : (c number : ℕ) → number < 2 ^ 64 → 10 ≤ digit_value c → lacks c (decimal number) ≡ true
lacks_decimal c number fits high = lacks_digits 10 c (decimal number) (decimal_is_IsNumeral number fits).0.1 high

-- ---- numbers of 8 bits

each_lacks : (c : ℕ) (numbers : List ℕ) → AreBytes numbers → 10 ≤ digit_value c → EachLacks c decimal numbers
each_lacks c [] small high = tt
each_lacks c (n ∷ ns) small high = (lacks_decimal c n (omega (arith, small.0)) high, each_lacks c ns small.1 high)

each_back : (numbers : List ℕ) → AreBytes numbers → each_number (map decimal numbers) ≡ Some numbers
each_back [] small = refl
each_back (n ∷ ns) small =
    rw (number_back 0 255 n (omega arith) (omega (arith, small.0)) (omega (arith, small.0)), each_back ns small.1) refl

pub numbers_back : (numbers : List ℕ) → 0 < length numbers → AreBytes numbers → numbers_in (numbers_text numbers) ≡ Some numbers
unfolding numbers_in
numbers_back [] some small = absurd (omega (arith, some))
numbers_back (n ∷ ns) some small =
    ap each_number (cut_list 44 decimal n ns (each_lacks 44 (n ∷ ns) small (omega arith))) ∙ each_back (n ∷ ns) small

pub lacks_numbers : (c : ℕ) (numbers : List ℕ) → AreBytes numbers → 10 ≤ digit_value c → (44 == c) ≡ false
    → lacks c (numbers_text numbers) ≡ true
lacks_numbers c numbers small high differs = lacks_list c 44 decimal numbers differs (each_lacks c numbers small high)

-- ---- in hexadecimal

decimal_back : (d : ℕ) → d < 10 → digit_value (48 + d) ≡ d
decimal_back d small = grind arith

letter_back : (d : ℕ) → 10 ≤ d → d < 16 → digit_value (87 + d) ≡ d
letter_back d low high = grind arith

is_decimal_hex : (d : ℕ) → d < 10 → is_hex_digit (48 + d) ≡ true
is_decimal_hex d small = rw (le-leb 48 (48 + d) (omega arith), le-leb (48 + d) 57 (omega (arith, small))) refl

is_letter_hex : (d : ℕ) → 10 ≤ d → d < 16 → is_hex_digit (87 + d) ≡ true
is_letter_hex d low high =
    rw (le-leb 48 (87 + d) (omega arith), lt-leb (87 + d) 57 (omega (arith, low)), le-leb 97 (87 + d) (omega (arith, low)), le-leb (87 + d) 102 (omega (arith, high))) refl

digit_back : (d : ℕ) → d < 16 → digit_value (hex_digit d) ≡ d
digit_back d small = go _ refl
  where
    go : (b : Bool) → nat_lt d 10 ≡ b → digit_value (hex_digit d) ≡ d
    go true is = rw is (decimal_back d (ltb-true d 10 is))
    go false is = rw is (letter_back d (ltb-false d 10 is) small)

is_digit_hex : (d : ℕ) → d < 16 → is_hex_digit (hex_digit d) ≡ true
is_digit_hex d small = go _ refl
  where
    go : (b : Bool) → nat_lt d 10 ≡ b → is_hex_digit (hex_digit d) ≡ true
    go true is = rw is (is_decimal_hex d (ltb-true d 10 is))
    go false is = rw is (is_letter_hex d (ltb-false d 10 is) small)

pub hex_long : (k number : ℕ) → length (hex_text k number) ≡ k
hex_long zero number = refl
hex_long (suc k) number = length-append (hex_text k (number / 16)) _ ∙ (rw (hex_long k (number / 16)) (omega arith))

hex_digits : (k number : ℕ) → list_all is_hex_digit (hex_text k number) ≡ true
hex_digits zero number = refl
hex_digits (suc k) number =
    list_all-append is_hex_digit (hex_text k (number / 16)) (hex_digit (number % 16) ∷ [])
    ∙ rw (hex_digits k (number / 16), is_digit_hex (number % 16) (omega arith)) refl

hex_value : (k number : ℕ) → number < 16 ^ k → digits_value 16 (hex_text k number) ≡ number
hex_value zero number small = omega (arith, small)
hex_value (suc k) number small =
    let less : number / 16 < 16 ^ k = omega (arith, small) in
    digits_value_push 16 (hex_text k (number / 16)) (hex_digit (number % 16))
    ∙ rw (hex_value k (number / 16) less, digit_back (number % 16) (omega arith)) (omega arith)

pub hex_back : (number : ℕ) → number < 2 ^ 64 → hex_in (hex_word number) ≡ Some number
unfolding hex_in hex_word
hex_back number fits =
    rw (eq-eqb (length (hex_text 16 number)) 16 (hex_long 16 number), hex_digits 16 number, hex_value 16 number fits) refl

pub hex_word_digits : (number : ℕ) → AllDigits 16 (hex_word number)
unfolding hex_word
hex_word_digits number = all_digits (hex_text 16 number) (hex_digits 16 number)

pub lacks_hex : (c number : ℕ) → 16 ≤ digit_value c → lacks c (hex_word number) ≡ true
lacks_hex c number high = lacks_digits 16 c (hex_word number) (hex_word_digits number) high
