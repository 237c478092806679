use Rattle.std.proofs.Common.{◌≡◌, drop, map}
use Rattle.rv_asm_statements.specs.Walk.{first_given}
use Rattle.rv_asm_statements.specs.RowView.{row_view}
use Rattle.rv_asm_statements.specs.Mnemonics.{row_named}
use Rattle.rv_asm_statements.proofs.mnemonics.has_row.Given as goal

abbrev pub invariant-loop-row : goal.invariant-loop-row
invariant-loop-row l = first_given (row_named l.name) (drop l.row-index (map row_view l.table)) ≡ first_given (row_named l.name) (map row_view l.table)
