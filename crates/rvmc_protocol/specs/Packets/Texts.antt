-- The text of a packet, which stands between `$` and `#`: the payload that it carries, and its sum.
use Rattle.std.specs.Prelude.{ℕ, ◌+◌, ◌-◌, ◌*◌, ◌/◌, ◌%◌, ◌==◌, ◌||◌, ◌&&◌, Bool, true, false, if◌then◌else◌, List, [], ◌∷◌, ◌++◌, Option, Some, None}
use Rattle.std.specs.Prelude.{bit_xor, nat_le, replicate, option_and_then, option_map}
use Rattle.std.specs.Char.{digit_char, digit_value, is_digit}
use Rattle.std.specs.List.{flat_map, sum}
use Rattle.rvmc_protocol.specs.declared.packets.texts.Behind.{Behind}
use Rattle.rvmc_protocol.specs.declared.packets.texts.Behind.TheVariants.{Start, Byte, Star}

-- ---- the sum

-- the sum of all bytes of the text, of which the lowest eight bits count
abbrev pub sum_of : List ℕ → ℕ
sum_of text = sum text % 256

-- the digit of a number below 16
abbrev pub digit : ℕ → ℕ
digit number = digit_char number

-- the two digits of a sum, the high one first
abbrev pub digits_of : ℕ → List ℕ
digits_of number = digit (number / 16) ∷ digit (number % 16) ∷ []

-- two digits, in either case, of the text's sum
abbrev pub is_sum : List ℕ → ℕ → ℕ → Bool
is_sum text high low =
    is_digit high 16 && (is_digit low 16 && (digit_value high * 16 + digit_value low == sum_of text))

-- ---- escapes: `#`, `$`, `*` and `}` are written as `}` and the byte with bit 5 turned over

-- `#`, `$`, `*` and `}`
abbrev pub is_special : ℕ → Bool
is_special byte = byte == 35 || byte == 36 || byte == 42 || byte == 125

unfoldable pub escaped : ℕ → List ℕ
escaped byte = if is_special byte then 125 ∷ bit_xor byte 32 ∷ [] else byte ∷ []

-- the text that carries a payload, with no run written short
abbrev pub text_of : List ℕ → List ℕ
text_of payload = flat_map escaped payload

-- what a byte stands for, behind a `}` or not, and whether it is a `}` itself
abbrev pub escape_added : Bool → ℕ → List ℕ
escape_added true byte = bit_xor byte 32 ∷ []
escape_added false byte = if byte == 125 then [] else byte ∷ []

abbrev pub escape_next : Bool → ℕ → Bool
escape_next true byte = false
escape_next false byte = byte == 125

-- a text with its escapes undone; a `}` can't end it
abbrev pub unescaped : Bool → List ℕ → Option (List ℕ)
unescaped behind [] = if behind then None else Some []
unescaped behind (byte ∷ rest) =
    option_map (λ more. escape_added behind byte ++ more) (unescaped (escape_next behind byte) rest)

-- ---- short runs: `*` and a printed character n stand for n - 29 more of the byte before them

-- what a byte stands for behind another
abbrev pub run_added : Behind → ℕ → List ℕ
run_added Start byte = if byte == 42 then [] else byte ∷ []
run_added (Byte last) byte = if byte == 42 then [] else byte ∷ []
run_added (Star last) number = if nat_le 32 number && nat_le number 126 then replicate (number - 29) last else []

-- where it can stand there, what is then behind the next one
abbrev pub run_next : Behind → ℕ → Option Behind
run_next Start byte = if byte == 42 then None else Some (Byte byte)
run_next (Byte last) byte = if byte == 42 then Some (Star last) else Some (Byte byte)
run_next (Star last) number = if nat_le 32 number && nat_le number 126 then Some (Byte last) else None

-- a `*` can't end a text
abbrev pub run_end : Behind → Option (List ℕ)
run_end (Star last) = None
run_end Start = Some []
run_end (Byte last) = Some []

-- a text with its runs written out
abbrev pub expanded : Behind → List ℕ → Option (List ℕ)
expanded behind [] = run_end behind
expanded behind (byte ∷ rest) =
    option_and_then (λ after. option_map (λ more. run_added behind byte ++ more) (expanded after rest))
    (run_next behind byte)

-- ---- both: runs are written out first

unfoldable pub payload_in : List ℕ → Option (List ℕ)
payload_in text = option_and_then (λ whole. unescaped false whole) (expanded Start text)
