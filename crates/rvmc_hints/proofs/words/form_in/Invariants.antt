-- How the loop over the table stands before each turn: the rows before this one begin otherwise.
use Rattle.std.proofs.Common.{◌≡◌, drop, map}
use Rattle.rv_asm_statements.specs.Walk.{beside, first_given}
use Rattle.rvmc_hints.specs.Rows.{form_view}
use Rattle.rvmc_hints.proofs.words.form_in.Given as goal

abbrev pub invariant-loop-row : goal.invariant-loop-row
invariant-loop-row l = first_given (beside l.head) (drop l.row-index (map form_view l.table)) ≡ first_given (beside l.head) (map form_view l.table)
