-- The tokens that bytes begin with, and those that are left.
use Rattle.std.specs.Prelude.{◌≡◌, ℕ, List, [], ◌∷◌, Option, Some, None, Result, Ok, Err}
use Rattle.rv_asm_tokens.specs.declared.fault.AsmFaultKind.{AsmFaultKind}
use Rattle.rv_asm_tokens.specs.declared.scanning.First.{First}
use Rattle.rv_asm_tokens.specs.Fault.{◌>>=◌}
use Rattle.rv_asm_tokens.specs.Lexeme.{Lexeme}
use Rattle.rv_asm_tokens.specs.TokenView.{lexeme_of}
use Rattle.rv_asm_tokens.specs.Scan.{tokens_of}

-- the tokens of bytes that are nothing else
abbrev pub those : Result (List Lexeme) AsmFaultKind → List Lexeme
those (Ok ts) = ts
those (Err e) = []

abbrev pub tokens_in : List ℕ → List Lexeme
tokens_in bytes = those (tokens_of bytes)

-- bytes have no token, or a first one and those of the bytes behind it
abbrev pub Begins : List ℕ → Option First → Type 0
Begins bytes None = tokens_of bytes ≡ Ok []
Begins bytes (Some f) = tokens_of bytes ≡ (tokens_of f.rest.now >>= λ ts. Ok (lexeme_of f.token ∷ ts))
