use Rattle.std.proofs.Common.{◌≡◌, is_some, length}
use Rattle.rv_asm_statements.specs.Shapes.{number_of}
use Rattle.rv_asm_statements.specs.Walk.{all_given}
use Rattle.rv_asm_statements.proofs.directive_forms.all_numbers.Given as goal

-- whether those that are left are numbers is whether all are
abbrev pub invariant-loop-operand : goal.invariant-loop-operand
invariant-loop-operand l = is_some (all_given number_of l.rest) ≡ is_some (all_given number_of l.operands)

abbrev pub decreases-loop-operand : goal.decreases-loop-operand
decreases-loop-operand l = length l.rest
