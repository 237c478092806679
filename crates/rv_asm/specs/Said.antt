-- What the lines of a source say, line by line: each its labels, then its statement.
use Rattle.std.specs.Prelude.{ℕ, ◌+◌, List, [], ◌∷◌, ◌++◌, map, Option, Some, Result, Ok}
use Rattle.rv_asm_tokens.specs.declared.fault.AsmFaultKind.{AsmFaultKind}
use Rattle.rv_asm_tokens.specs.Cursor.{tokens_in}
use Rattle.rv_asm_tokens.specs.Lexeme.{Lexeme, name, colon}
use Rattle.rv_asm_statements.specs.declared.statements.Statement.{Statement}
use Rattle.rv_asm_statements.specs.declared.statements.Statement.TheVariants.{Label}
use Rattle.rv_asm_statements.specs.Statements.{statement_of}
use Rattle.rv_asm_lines.specs.Item.{Item}

-- the labels at the front of a line, and what stands behind them
abbrev pub labels_of : List Lexeme → List Statement
labels_of (name w ∷ colon ∷ rest) = Label w ∷ labels_of rest
labels_of _ = []

abbrev pub behind_labels : List Lexeme → List Lexeme
behind_labels (name w ∷ colon ∷ rest) = behind_labels rest
behind_labels ts = ts

abbrev pub stated : Result (Option Statement) AsmFaultKind → List Statement
stated (Ok (Some statement)) = statement ∷ []
stated _ = []

abbrev pub said : List ℕ → List Statement
said line = labels_of (tokens_in line) ++ stated (statement_of (behind_labels (tokens_in line)))

-- the same with a line's number
abbrev pub numbered : ℕ → List Statement → List (ℕ × Statement)
numbered n statements = map (λ statement. (n, statement)) statements

-- what lines say, the first of which has number n
abbrev pub said_from : ℕ → List (List ℕ) → List (ℕ × Statement)
said_from n [] = []
said_from n (line ∷ others) = numbered n (said line) ++ said_from (n + 1) others

-- what items say, each with its line's number
abbrev pub said_in : List Item → List (ℕ × Statement)
said_in items = map (λ item. (item.line, item.statement)) items
