-- Operands as they are written.
use Rattle.std.specs.Prelude.{◌≡◌, ◌↔◌, List, [], ◌∷◌, ◌++◌, Some}
use Rattle.rv_asm_tokens.specs.Lexeme.{Lexeme, name, number, text, comma, opens, closes, plus}
use Rattle.rv_asm_statements.specs.Arguments.{Argument, word, value, quoted, sum, place, arguments_of}

-- `name`, `number`, `"text"`, `name+number` or `number(name)`
abbrev pub written : Argument → List Lexeme
written (word w) = name w ∷ []
written (value z) = number z ∷ []
written (quoted raw) = text raw ∷ []
written (sum w z) = name w ∷ plus ∷ number z ∷ []
written (place z w) = number z ∷ opens ∷ name w ∷ closes ∷ []

-- operands, each with a comma before it
abbrev pub behind_commas : List Argument → List Lexeme
behind_commas [] = []
behind_commas (x ∷ xs) = comma ∷ written x ++ behind_commas xs

-- operands with a comma between each two
abbrev pub listed : List Argument → List Lexeme
listed [] = []
listed (x ∷ xs) = written x ++ behind_commas xs

-- tokens have operands exactly where they are these operands, written with commas between them
abbrev pub OperandsAreWritten : Type 0
OperandsAreWritten = (ts : List Lexeme) (xs : List Argument) → (arguments_of ts ≡ Some xs) ↔ (ts ≡ listed xs)
