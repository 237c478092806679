-- One statement of the first pass.
use Rattle.std.specs.Prelude.{ℕ, List, Result}
use Rattle.rv_asm_tokens.specs.declared.fault.AsmFaultKind.{AsmFaultKind}
use Rattle.rv_asm_tokens.specs.Fault.{◌>>=◌}
use Rattle.rv_asm_tokens.specs.Lexeme.{Lexeme}
use Rattle.rv_asm_statements.specs.Statements.{statement_of}
use Rattle.rv_asm_lines.specs.Layout.{Layout, placed}

-- the statement behind a line's labels
abbrev pub statement_step : ℕ → Layout → List Lexeme → Result Layout AsmFaultKind
statement_step n s ts = statement_of ts >>= λ stated. placed n s stated
