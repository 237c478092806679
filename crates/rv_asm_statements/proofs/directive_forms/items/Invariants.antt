use Rattle.std.proofs.Common.{◌≡◌, ◌++◌, length}
use Rattle.std.specs.List.{filter_map}
use Rattle.rv_asm_statements.specs.Directives.{item_of}
use Rattle.rv_asm_statements.proofs.directive_forms.items.Given as goal

-- what is made, and the items that are left, are all items
abbrev pub invariant-loop-operand : goal.invariant-loop-operand
invariant-loop-operand l = l.done.items ++ filter_map (item_of l.width) l.rest ≡ filter_map (item_of l.width) l.operands

abbrev pub decreases-loop-operand : goal.decreases-loop-operand
decreases-loop-operand l = length l.rest
