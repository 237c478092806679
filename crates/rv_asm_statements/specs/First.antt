-- The first operands of a statement.
use Rattle.std.specs.Prelude.{◌≡◌, ◌≤◌, List, length, map, take}
use Rattle.rv_asm_statements.specs.declared.few.Few.{Few}
use Rattle.rv_asm_statements.specs.Arguments.{Argument}
use Rattle.rv_asm_statements.specs.CodeViews.{argument_view}

-- the first three operands, and how many there are, if there are no more than these
pub record AreFirst (few : Few) (xs : List Argument) : Type 0 where
  pub kept : map argument_view (take few.count few.operands) ≡ take 3 xs
  pub within : few.count ≤ length xs
  pub whole : few.count ≤ 3 → few.count ≡ length xs
  pub room : length few.operands ≡ 3
