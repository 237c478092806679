-- The tokens of a line.
use Rattle.std.specs.Prelude.{ℕ, zero, suc, ◌+◌, ◌^◌, pos, neg_ℤ, List, [], ◌∷◌, ◌++◌, take, Bool, false, ◌||◌, Option}
use Rattle.std.specs.Prelude.{Some, None, Result, Ok, Err, nat_le, ◌==◌, if◌then◌else◌}
use Rattle.std.specs.List.{prefix_len}
use Rattle.rv_asm_tokens.specs.declared.fault.AsmFaultKind.{AsmFaultKind}
use Rattle.rv_asm_tokens.specs.declared.fault.AsmFaultKind.TheVariants as kinds
use Rattle.rv_asm_tokens.specs.Fault.{◌>>=◌, if_some}
use Rattle.rv_asm_tokens.specs.Lexeme.{Lexeme, name, number, text, comma, colon, opens, closes, plus}
use Rattle.rv_asm_tokens.specs.Digits.{between, is_digit, magnitude}
use Rattle.rv_asm_tokens.specs.Escapes.{quoted_length}

abbrev pub is_blank : ℕ → Bool
is_blank b = (b == 32) || (b == 9)

-- letters, digits, `_`, `.` and `$`
abbrev pub is_name_byte : ℕ → Bool
is_name_byte b = between 97 122 b || (between 65 90 b || (is_digit b || ((b == 95) || ((b == 46) || (b == 36)))))

-- how many bytes that may stand in names come first
abbrev pub word_length : List ℕ → ℕ
word_length bs = prefix_len is_name_byte bs

-- What stands at a byte: None for a comment, else a token, or none for a blank, and how many of the bytes after it
-- belong to it.
abbrev pub Front : Type 0
Front = Option (Option Lexeme × ℕ)

abbrev pub piece : Lexeme → ℕ → Front
piece t more = Some (Some t, more)

-- a number reaches as far as bytes of names do
abbrev pub number_front : List ℕ → List ℕ → Result Front AsmFaultKind
number_front here after =
    if_some (magnitude (take (word_length after + 1) here)) (Err kinds.Token)
    (λ n. Ok (piece (number (pos n)) (word_length after)))

-- a number behind its sign
abbrev pub negative_front : List ℕ → Result Front AsmFaultKind
negative_front after =
    if_some (magnitude (take (word_length after) after)) (Err kinds.Token)
    (λ n. if nat_le n (2 ^ 63) then Ok (piece (number (neg_ℤ (pos n))) (word_length after)) else Err kinds.Token)

abbrev pub name_front : List ℕ → List ℕ → Front
name_front here after = piece (name (take (word_length after + 1) here)) (word_length after)

-- a string behind its first quote; its last belongs to it
abbrev pub text_front : List ℕ → Result Front AsmFaultKind
text_front after =
    if_some (quoted_length false 0 after) (Err kinds.Token) (λ n. Ok (piece (text (take n after)) (n + 1)))

abbrev pub sign : ℕ → Option Lexeme
sign b =
    if b == 44 then Some comma
    else (if b == 58 then Some colon
    else (if b == 40 then Some opens else (if b == 41 then Some closes else (if b == 43 then Some plus else None))))

abbrev pub sign_front : ℕ → Result Front AsmFaultKind
sign_front b = if_some (sign b) (Err kinds.Token) (λ t. Ok (piece t 0))

-- what stands at the first byte of `here`, which is b with `after` behind it
unfoldable pub front_at : ℕ → List ℕ → List ℕ → Result Front AsmFaultKind
front_at b here after =
    if is_blank b then Ok (Some (None, 0))
    else (if b == 35 then Ok None
    else (if b == 34 then text_front after
    else (if b == 45 then negative_front after
    else (if is_digit b then number_front here after
    else (if is_name_byte b then Ok (name_front here after)
    else sign_front b)))))

-- one more token, if there is one
abbrev pub with_token : List Lexeme → Option Lexeme → List Lexeme
with_token done None = done
with_token done (Some t) = done ++ t ∷ []

-- The tokens of bytes, behind those that are done. The first `inside` bytes belong to the last of these.
unfoldable pub tokens_from : ℕ → List Lexeme → List ℕ → Result (List Lexeme) AsmFaultKind
tokens_from inside done [] = Ok done
tokens_from (suc k) done (b ∷ bs) = tokens_from k done bs
tokens_from zero done (b ∷ bs) =
    front_at b (b ∷ bs) bs >>= λ o. if_some o (Ok done) (λ f. tokens_from f.1 (with_token done f.0) bs)

-- the tokens of a line
abbrev pub tokens_of : List ℕ → Result (List Lexeme) AsmFaultKind
tokens_of line = tokens_from 0 [] line
