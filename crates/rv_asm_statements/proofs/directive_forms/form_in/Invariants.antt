use Rattle.std.proofs.Common.{◌≡◌, drop, map}
use Rattle.rv_asm_statements.specs.Walk.{beside, first_given}
use Rattle.rv_asm_statements.specs.DirectiveRowView.{directive_row_view}
use Rattle.rv_asm_statements.proofs.directive_forms.form_in.Given as goal

abbrev pub invariant-loop-row : goal.invariant-loop-row
invariant-loop-row l = first_given (beside l.name) (drop l.row-index (map directive_row_view l.table)) ≡ first_given (beside l.name) (map directive_row_view l.table)
