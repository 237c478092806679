-- Lines, and what they come to.
use Rattle.std.specs.Prelude.{◌≡◌, ℕ, List, pos, negsuc, [], ◌∷◌, codes, map, Result, Ok, Err}
use Rattle.rv_asm_tokens.specs.declared.fault.AsmFaultKind.{AsmFaultKind}
use Rattle.rv_asm_tokens.specs.declared.fault.AsmFaultKind.TheVariants as kinds
use Rattle.rv_asm_tokens.specs.Lexeme.{Lexeme, name, number, text, comma, colon, opens, closes, plus}
use Rattle.rv_asm_tokens.specs.Scan.{tokens_of}

abbrev pub tokens_of_a_line : List Lexeme
tokens_of_a_line = name (codes "go") ∷ colon ∷ name (codes "li") ∷ name (codes "a0") ∷ comma ∷ number (negsuc 15) ∷ []

-- newline, tab, zero, backslash, quote, n
abbrev pub bytes_of_escapes : List ℕ
bytes_of_escapes = 10 ∷ 9 ∷ 0 ∷ 92 ∷ 34 ∷ 110 ∷ []

abbrev pub lines : List (List ℕ × Result (List Lexeme) AsmFaultKind)
lines =
    (codes "", Ok [])
    ∷ (codes " \t# nop", Ok [])
    ∷ (codes "-9223372036854775808", Ok (number (negsuc 9223372036854775807) ∷ []))
    ∷ (codes "-9223372036854775809", Err kinds.Token)
    ∷ (codes "18446744073709551615", Ok (number (pos 18446744073709551615) ∷ []))
    ∷ (codes "18446744073709551616", Err kinds.Token)
    ∷ (codes "0xfF", Ok (number (pos 255) ∷ []))
    ∷ (codes "0x", Err kinds.Token)
    ∷ (codes "12ab", Err kinds.Token)
    ∷ (codes "- 5", Err kinds.Token)
    ∷ (codes "a.b_$1", Ok (name (codes "a.b_$1") ∷ []))
    ∷ (codes "8(sp)+", Ok (number (pos 8) ∷ opens ∷ name (codes "sp") ∷ closes ∷ plus ∷ []))
    -- a comment sign in a string is a character, and a string holds its escapes as they stand
    ∷ (codes "\"a#\\n\" # b", Ok (text (codes "a#\\n") ∷ []))
    ∷ (codes "\"\\q\"", Err kinds.Token)
    ∷ (codes "\"a", Err kinds.Token)
    ∷ (codes "@", Err kinds.Token)
    ∷ (codes "nop\r", Err kinds.Token)
    ∷ (codes "\tnop", Ok (name (codes "nop") ∷ []))
    ∷ (codes "0xAB", Ok (number (pos 171) ∷ []))
    ∷ (codes "-0x10", Ok (number (negsuc 15) ∷ []))
    -- a character that isn't ASCII may stand in a comment, and in no string
    ∷ (35 ∷ 195 ∷ 169 ∷ [], Ok [])
    ∷ (34 ∷ 195 ∷ 169 ∷ 34 ∷ [], Err kinds.Token)
    -- NUL and DEL may stand in a string, and nowhere else
    ∷ (34 ∷ 0 ∷ 127 ∷ 34 ∷ [], Ok (text (0 ∷ 127 ∷ []) ∷ []))
    ∷ (0 ∷ [], Err kinds.Token)
    ∷ (127 ∷ [], Err kinds.Token)
    -- a backslash stands before one of the escapes, in a string
    ∷ (codes "\\", Err kinds.Token)
    ∷ (codes "\"\\\"", Err kinds.Token)
    ∷ []

abbrev pub AreTokensOfLines : Type 0
AreTokensOfLines = map (λ row. tokens_of row.0) lines ≡ map (λ row. row.1) lines
