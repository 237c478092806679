use Rattle.std.proofs.Common.{◌≡◌, drop, map}
use Rattle.rv_asm_statements.specs.CodeViews.{argument_view}
use Rattle.rv_asm_statements.specs.Walk.{first_given}
use Rattle.rv_asm_statements.specs.RowView.{row_view}
use Rattle.rv_asm_statements.specs.Mnemonics.{row_use}
use Rattle.rv_asm_statements.proofs.mnemonics.use_in.Given as goal

abbrev pub invariant-loop-row : goal.invariant-loop-row
invariant-loop-row l = first_given (row_use l.name (map argument_view l.operands)) (drop l.row-index (map row_view l.table)) ≡ first_given (row_use l.name (map argument_view l.operands)) (map row_view l.table)
