-- Tokens without where their bytes lie.
use Rattle.std.specs.Prelude.{ℕ, ℤ, pos, neg_ℤ, List, if◌then◌else◌}
use Rattle.rv_asm_tokens.specs.declared.number.Number.{Number as SignedMagnitude}

-- the integer of a sign and a magnitude
abbrev pub number_value : SignedMagnitude → ℤ
number_value n = if n.negative then neg_ℤ (pos n.magnitude) else pos n.magnitude

pub data Lexeme : Type 0 where
  name : List ℕ → Lexeme
  number : ℤ → Lexeme
  text : List ℕ → Lexeme
  comma : Lexeme
  colon : Lexeme
  opens : Lexeme
  closes : Lexeme
  plus : Lexeme
