-- Hexadecimal digits in lower case, as many as are asked for.
use Rattle.std.specs.Prelude.{ℕ, suc, zero, ◌+◌, ◌/◌, ◌%◌, Bool, ◌&&◌, ◌||◌, ◌==◌, List, [], ◌∷◌, ◌++◌, length, Option, Some, None, if◌then◌else◌, nat_le, nat_lt}
use Rattle.std.specs.List.{list_all}
use Rattle.std.specs.Char.{is_ascii_digit}
use Rattle.std.specs.Str.Parse.{digits_value}

-- the digit of a number below 16
abbrev pub hex_digit : ℕ → ℕ
hex_digit number = if nat_lt number 10 then 48 + number else 87 + number

-- so many of the lowest digits, the highest one first
abbrev pub hex_text : ℕ → ℕ → List ℕ
hex_text zero number = []
hex_text (suc digits) number = hex_text digits (number / 16) ++ hex_digit (number % 16) ∷ []

-- the 16 digits of a number of 64 bits
unfoldable pub hex_word : ℕ → List ℕ
hex_word number = hex_text 16 number

-- a decimal digit, or a letter from `a` to `f`
abbrev pub is_hex_digit : ℕ → Bool
is_hex_digit byte = is_ascii_digit byte || (nat_le 97 byte && nat_le byte 102)

-- the number that 16 digits write
unfoldable pub hex_in : List ℕ → Option ℕ
hex_in text = if (length text == 16) && list_all is_hex_digit text then Some (digits_value 16 text) else None
