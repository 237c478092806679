-- How a payload is taken apart: what follows a prefix, what comes before a mark, and numbers.
use Rattle.std.specs.Prelude.{ℕ, Bool, List, [], ◌∷◌, length, drop, Option, Some, None, ◌&&◌, ◌==◌, if◌then◌else◌}
use Rattle.std.specs.Prelude.{nat_eq, nat_lt, option_and_then, option_map}
use Rattle.std.specs.Char.{is_digit}
use Rattle.std.specs.List.{list_all, starts_with}
use Rattle.std.specs.Str.Parse.{digits_value}

-- what stands behind a beginning, where the text begins so
abbrev pub behind : List ℕ → List ℕ → Option (List ℕ)
behind text beginning = if starts_with nat_eq text beginning then Some (drop (length beginning) text) else None

-- what stands before the first such mark, and behind it
abbrev pub cut : ℕ → List ℕ → Option (List ℕ × List ℕ)
cut mark [] = None
cut mark (byte ∷ rest) =
    if byte == mark then Some ([], rest) else option_map (λ sides. (byte ∷ sides.0, sides.1)) (cut mark rest)

-- hexadecimal digits of either case, one or more, of a number of 64 bits
abbrev pub is_numeral : List ℕ → Bool
is_numeral text =
    list_all (λ digit. is_digit digit 16) text
    && (nat_lt 0 (length text) && nat_lt (digits_value 16 text) 18446744073709551616)

-- the number that a text writes so, the high digit first
unfoldable pub number_in : List ℕ → Option ℕ
number_in text = if is_numeral text then Some (digits_value 16 text) else None

-- two numbers with a comma between them
abbrev pub numbers_in : List ℕ → Option (ℕ × ℕ)
numbers_in text =
    option_and_then (λ sides. option_and_then (λ first. option_map (λ second. (first, second))
    (number_in sides.1)) (number_in sides.0)) (cut 44 text)
