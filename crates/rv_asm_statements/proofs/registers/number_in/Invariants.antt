use Rattle.std.proofs.Common.{◌≡◌, drop, map}
use Rattle.rv_asm_statements.specs.Walk.{beside, first_given}
use Rattle.rv_asm_statements.specs.CodeViews.{register_view}
use Rattle.rv_asm_statements.proofs.registers.number_in.Given as goal

abbrev pub invariant-loop-row : goal.invariant-loop-row
invariant-loop-row l = first_given (beside l.name) (drop l.row-index (map register_view l.table)) ≡ first_given (beside l.name) (map register_view l.table)
