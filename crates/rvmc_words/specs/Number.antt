-- The number that a text writes, in decimal or in hexadecimal digits, and the numbers that a list of them writes.
use Rattle.std.specs.Prelude.{ℕ, Bool, List, [], ◌∷◌, length, drop, Option, Some, None, ◌&&◌, ◌==◌, if◌then◌else◌}
use Rattle.std.specs.Prelude.{codes, nat_eq, nat_le, nat_lt, option_and_then, option_map}
use Rattle.std.specs.List.{list_all, slice_split, starts_with}
use Rattle.std.specs.Char.{is_digit}
use Rattle.std.specs.Str.Parse.{digits_value}

-- one digit of the base or more, and nothing else
abbrev pub is_numeral : ℕ → List ℕ → Bool
is_numeral base text = nat_lt 0 (length text) && list_all (λ d. is_digit d base) text

-- the number, from `least` to `most`, that the text writes in digits of the base
abbrev pub number_in_base : ℕ → ℕ → ℕ → List ℕ → Option ℕ
number_in_base base least most text =
    let number = digits_value base text in
    if is_numeral base text && (nat_le least number && nat_le number most) then Some number else None

-- the number, from `least` to `most`, that the text writes in decimal
unfoldable pub number_in : ℕ → ℕ → List ℕ → Option ℕ
number_in least most text = number_in_base 10 least most text

-- the number up to `most` that the text writes in decimal, or behind `0x` in hexadecimal with letters of either case
unfoldable pub any_number_in : ℕ → List ℕ → Option ℕ
any_number_in most text =
    if starts_with nat_eq text (codes "0x") then number_in_base 16 0 most (drop 2 text)
    else number_in_base 10 0 most text

-- the number from 0 to 255 that each text writes, where each does
abbrev pub each_number : List (List ℕ) → Option (List ℕ)
each_number [] = Some []
each_number (text ∷ texts) =
    option_and_then (λ number. option_map (λ numbers. number ∷ numbers) (each_number texts)) (number_in 0 255 text)

-- what stands before, between and behind the commas, each a number
unfoldable pub numbers_in : List ℕ → Option (List ℕ)
numbers_in text = each_number (slice_split (λ byte. byte == 44) text)
