use Rattle.std.proofs.Common.{◌≡◌, is_some, length}
use Rattle.rv_asm_statements.specs.Directives.{item_of}
use Rattle.rv_asm_statements.specs.Walk.{all_given}
use Rattle.rv_asm_statements.proofs.directive_forms.all_items.Given as goal

-- whether those that are left are items is whether all are
abbrev pub invariant-loop-operand : goal.invariant-loop-operand
invariant-loop-operand l = is_some (all_given (item_of l.width) l.rest) ≡ is_some (all_given (item_of l.width) l.operands)

abbrev pub decreases-loop-operand : goal.decreases-loop-operand
decreases-loop-operand l = length l.rest
