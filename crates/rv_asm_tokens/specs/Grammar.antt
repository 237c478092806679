-- How a line is spelled: blanks and tokens, each as long as it can be, and a comment at its end.
use Rattle.std.specs.Prelude.{◌≡◌, ◌≢◌, ◌<◌, ◌≤◌, ◌+◌, ◌*◌, ◌^◌, ◌⊎◌, ◌↔◌, ℕ, ℤ, pos, neg_ℤ, List, [], ◌∷◌, ◌++◌}
use Rattle.std.specs.Prelude.{All, length, codes, slice_get, Bool, true, false, Some, Ok, Err, nat_eq}
use Rattle.std.specs.List.{list_any}
use Rattle.rv_asm_tokens.specs.declared.fault.AsmFaultKind.{AsmFaultKind}
use Rattle.rv_asm_tokens.specs.declared.fault.AsmFaultKind.TheVariants as kinds
use Rattle.rv_asm_tokens.specs.Lexeme.{Lexeme, name, number, text, comma, colon, opens, closes, plus}
use Rattle.rv_asm_tokens.specs.Scan.{tokens_of}

-- ---- characters

abbrev pub is_one_of : List ℕ → ℕ → Bool
is_one_of characters b = list_any (nat_eq b) characters

abbrev pub AreOneOf : List ℕ → List ℕ → Type 0
AreOneOf characters bytes = All (λ b. is_one_of characters b ≡ true) bytes

abbrev pub blanks : List ℕ
blanks = codes " \t"

abbrev pub digits : List ℕ
digits = codes "0123456789"

abbrev pub name_characters : List ℕ
name_characters = codes "abcdefghijklmnopqrstuvwxyzABCDEFGHIJKLMNOPQRSTUVWXYZ0123456789_.$"

-- ---- names

-- one character of names or more, the first no digit
abbrev pub IsName : List ℕ → Type 0
IsName [] = ⊥
IsName (b ∷ bs) = (is_one_of digits b ≡ false) × AreOneOf name_characters (b ∷ bs)

-- ---- numbers

-- b is the digit of value d
abbrev pub IsDigit : ℕ → ℕ → ℕ → Type 0
IsDigit base b d =
    (d < base)
    × ((slice_get (codes "0123456789abcdef") d ≡ Some b) ⊎ (slice_get (codes "0123456789ABCDEF") d ≡ Some b))

-- digits, the highest first, and the number that they are: each counts as often as the base's power at its place
abbrev pub IsNumeral : ℕ → List ℕ → ℕ → Type 0
IsNumeral base [] n = n ≡ 0
IsNumeral base (b ∷ bs) n =
    (d : ℕ) × (low : ℕ) × IsDigit base b d × IsNumeral base bs low × (n ≡ d * base ^ length bs + low)

-- decimal digits, or `0x` and hexadecimal digits; at least one
pub data IsMagnitude (word : List ℕ) (n : ℕ) : Type 0 where
  decimal : word ≢ [] → IsNumeral 10 word n → IsMagnitude word n
  hexadecimal : (behind : List ℕ) → behind ≢ [] → word ≡ codes "0x" ++ behind → IsNumeral 16 behind n
      → IsMagnitude word n

-- a number from -2^63 to 2^64 - 1, with `-` before it where it is negative
pub data IsNumber (spelled : List ℕ) (z : ℤ) : Type 0 where
  plain : (n : ℕ) → IsMagnitude spelled n → n < 2 ^ 64 → z ≡ pos n → IsNumber spelled z
  negative : (word : List ℕ) (n : ℕ) → spelled ≡ codes "-" ++ word → IsMagnitude word n → n ≤ 2 ^ 63 → z ≡ neg_ℤ (pos n)
      → IsNumber spelled z

-- ---- strings

-- how a byte of a string is spelled: one of ASCII stands for itself, but for a quote and a backslash
pub data IsCharacter (spelled : List ℕ) (b : ℕ) : Type 0 where
  itself : b < 128 → is_one_of (codes "\"\\") b ≡ false → spelled ≡ b ∷ [] → IsCharacter spelled b
  newline : spelled ≡ codes "\\n" → b ≡ 10 → IsCharacter spelled b
  tab : spelled ≡ codes "\\t" → b ≡ 9 → IsCharacter spelled b
  nul : spelled ≡ codes "\\0" → b ≡ 0 → IsCharacter spelled b
  backslash : spelled ≡ codes "\\\\" → b ≡ 92 → IsCharacter spelled b
  quote : spelled ≡ codes "\\\"" → b ≡ 34 → IsCharacter spelled b

-- what stands between the quotes, and the bytes that it stands for
abbrev pub IsText : List ℕ → List ℕ → Type 0
IsText raw [] = raw ≡ []
IsText raw (b ∷ bs) =
    (spelled : List ℕ) × (rest : List ℕ) × (raw ≡ spelled ++ rest) × IsCharacter spelled b × IsText rest bs

-- ---- tokens

abbrev pub Spells : Lexeme → List ℕ → Type 0
Spells (name w) spelled = (spelled ≡ w) × IsName w
Spells (number z) spelled = IsNumber spelled z
Spells (text raw) spelled = (spelled ≡ codes "\"" ++ raw ++ codes "\"") × ((bytes : List ℕ) × IsText raw bytes)
Spells comma spelled = spelled ≡ codes ","
Spells colon spelled = spelled ≡ codes ":"
Spells opens spelled = spelled ≡ codes "("
Spells closes spelled = spelled ≡ codes ")"
Spells plus spelled = spelled ≡ codes "+"

abbrev pub BeginsApart : List ℕ → Type 0
BeginsApart [] = Unit {0}
BeginsApart (b ∷ bs) = is_one_of name_characters b ≡ false

-- a name or a number is as long as it can be: no character of names stands behind it
abbrev pub EndsBefore : Lexeme → List ℕ → Type 0
EndsBefore (name w) rest = BeginsApart rest
EndsBefore (number z) rest = BeginsApart rest
EndsBefore _ rest = Unit {0}

-- ---- lines

-- nothing, or `#` and whatever follows it
abbrev pub IsComment : List ℕ → Type 0
IsComment [] = Unit {0}
IsComment (b ∷ bs) = b ≡ 35

-- blanks, the first token and a line of the others; behind the last token blanks, and a comment or nothing
abbrev pub IsLine : List ℕ → List Lexeme → Type 0
IsLine line [] =
    (before : List ℕ) × (rest : List ℕ) × (line ≡ before ++ rest) × AreOneOf blanks before × IsComment rest
IsLine line (t ∷ ts) =
    (before : List ℕ) × (spelled : List ℕ) × (rest : List ℕ) × (line ≡ before ++ spelled ++ rest)
    × AreOneOf blanks before × Spells t spelled × EndsBefore t rest × IsLine rest ts

-- ---- laws

-- a line has tokens exactly where it is spelled of them; it is spelled of no others; and a fault is that of a token
pub record TokensAreSpelled : Type 0 where
  pub spelled : (line : List ℕ) (ts : List Lexeme) → (tokens_of line ≡ Ok ts) ↔ IsLine line ts
  pub one_reading : (line : List ℕ) (ts us : List Lexeme) → IsLine line ts → IsLine line us → ts ≡ us
  pub fault : (line : List ℕ) (e : AsmFaultKind) → tokens_of line ≡ Err e → e ≡ kinds.Token
