use Rattle.std.proofs.Common.{◌≡◌, ◌+◌, length}
use Rattle.rv_asm_statements.proofs.directive_forms.are_more.Given as goal

-- so many were taken
abbrev pub invariant-loop : goal.invariant-loop
invariant-loop l = length l.operands ≡ l.counter + length l.rest
