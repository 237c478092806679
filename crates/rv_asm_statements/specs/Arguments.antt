-- What stands between the commas of a statement.
use Rattle.std.specs.Prelude.{ℕ, ℤ, List, [], ◌∷◌, Bool, true, false, Option, Some, None}
use Rattle.std.specs.List.{slice_split}
use Rattle.rv_asm_tokens.specs.Lexeme.{Lexeme, name, number, text, comma, opens, closes, plus}
use Rattle.rv_asm_statements.specs.Walk.{all_given}

-- an operand, without where its bytes lie
pub data Argument : Type 0 where
  word : List ℕ → Argument
  value : ℤ → Argument
  quoted : List ℕ → Argument
  sum : List ℕ → ℤ → Argument
  place : ℤ → List ℕ → Argument

-- `name`, `number`, `"text"`, `name+number` or `number(name)`
abbrev pub argument_of : List Lexeme → Option Argument
argument_of (name w ∷ []) = Some (word w)
argument_of (number z ∷ []) = Some (value z)
argument_of (text bs ∷ []) = Some (quoted bs)
argument_of (name w ∷ plus ∷ number z ∷ []) = Some (sum w z)
argument_of (number z ∷ opens ∷ name w ∷ closes ∷ []) = Some (place z w)
argument_of _ = None

abbrev pub is_comma : Lexeme → Bool
is_comma comma = true
is_comma _ = false

-- none, or what stands between the commas, if each is an operand
abbrev pub arguments_of : List Lexeme → Option (List Argument)
arguments_of [] = Some []
arguments_of (t ∷ ts) = all_given argument_of (slice_split is_comma (t ∷ ts))
