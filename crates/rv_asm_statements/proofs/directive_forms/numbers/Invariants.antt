use Rattle.std.proofs.Common.{◌≡◌, ◌++◌, length}
use Rattle.std.specs.List.{filter_map}
use Rattle.rv_asm_statements.specs.Shapes.{number_of}
use Rattle.rv_asm_statements.proofs.directive_forms.numbers.Given as goal

-- what is made, and the numbers that are left, are all numbers
abbrev pub invariant-loop-operand : goal.invariant-loop-operand
invariant-loop-operand l = l.done.items ++ filter_map number_of l.rest ≡ filter_map number_of l.operands

abbrev pub decreases-loop-operand : goal.decreases-loop-operand
decreases-loop-operand l = length l.rest
