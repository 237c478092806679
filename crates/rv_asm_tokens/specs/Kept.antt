-- The tokens of a line that are left: those that are kept, and those of the bytes behind them.
use Rattle.std.specs.Prelude.{ℕ, List, ◌++◌, map, slice_range}
use Rattle.rv_asm_tokens.specs.declared.token.Token.{Token}
use Rattle.rv_asm_tokens.specs.Cursor.{tokens_in}
use Rattle.rv_asm_tokens.specs.Lexeme.{Lexeme}
use Rattle.rv_asm_tokens.specs.TokenView.{lexeme_of}

-- the kept ones from a place to another, and those of the bytes
abbrev pub tokens_left : List Token → ℕ → ℕ → List ℕ → List Lexeme
tokens_left kept at end bytes = map lexeme_of (slice_range kept at end) ++ tokens_in bytes
