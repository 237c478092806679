-- A line's statement.
use Rattle.std.specs.Prelude.{ℕ, List, [], ◌∷◌, Bool, false, ◌==◌, Option, Some, None, Result, Ok, Err, if◌then◌else◌}
use Rattle.rv_asm_tokens.specs.declared.fault.AsmFaultKind.{AsmFaultKind}
use Rattle.rv_asm_tokens.specs.declared.fault.AsmFaultKind.TheVariants as kinds
use Rattle.rv_asm_tokens.specs.Fault.{◌>>=◌}
use Rattle.rv_asm_tokens.specs.Lexeme.{Lexeme, name}
use Rattle.rv_asm_statements.specs.declared.statements.Statement.{Statement}
use Rattle.rv_asm_statements.specs.declared.statements.Statement.TheVariants.{Instruction, Directive}
use Rattle.rv_asm_statements.specs.Arguments.{arguments_of}
use Rattle.rv_asm_statements.specs.Mnemonics.{instruction_of}
use Rattle.rv_asm_statements.specs.Directives.{directive_of}

abbrev pub begins_with_dot : List ℕ → Bool
begins_with_dot [] = false
begins_with_dot (b ∷ bs) = b == 46

-- a mnemonic and its operands
abbrev pub instruction_at : List ℕ → List Lexeme → Result (Option Statement) AsmFaultKind
instruction_at w ts = instruction_of w (arguments_of ts) >>= λ u. Ok (Some (Instruction u))

-- a directive and its operands
abbrev pub directive_at : List ℕ → List Lexeme → Result (Option Statement) AsmFaultKind
directive_at w ts = directive_of w (arguments_of ts) >>= λ d. Ok (Some (Directive d))

-- what follows a line's labels: a name with a dot before it is a directive's
unfoldable pub statement_of : List Lexeme → Result (Option Statement) AsmFaultKind
statement_of [] = Ok None
statement_of (name w ∷ ts) = if begins_with_dot w then directive_at w ts else instruction_at w ts
statement_of _ = Err kinds.Mnemonic
