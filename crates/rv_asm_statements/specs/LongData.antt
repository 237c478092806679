-- Statements whose operands ask for memory.
use Rattle.std.specs.Prelude.{ℕ, List, ◌∷◌, Bool, true, false, Option, Some, None, Result, Ok}
use Rattle.rv_asm_tokens.specs.declared.fault.AsmFaultKind.{AsmFaultKind}
use Rattle.rv_asm_tokens.specs.Lexeme.{Lexeme, name}
use Rattle.rv_asm_statements.specs.declared.statements.Statement.{Statement}
use Rattle.rv_asm_statements.specs.declared.statements.Statement.TheVariants.{Directive}
use Rattle.rv_asm_statements.specs.declared.directives.Width.{Width}
use Rattle.rv_asm_statements.specs.Kept.{long_items}

-- a mnemonic or the name of a directive stands first: only what stands behind it asks for memory
abbrev pub begins_with_name : List Lexeme → Bool
begins_with_name (name w ∷ ts) = true
begins_with_name _ = false

-- the width of a statement's data, if it has more items than so many
abbrev pub long_data : ℕ → Result (Option Statement) AsmFaultKind → Option Width
long_data most (Ok (Some (Directive d))) = long_items most (Some d)
long_data most _ = None
