use Rattle.std.proofs.Common.{◌≡◌}
use Rattle.std.specs.Prelude.{map}
use Rattle.std.specs.List.{range_with_len}
use Rattle.rv_hart.specs.State.{read}
use Rattle.rvmc_changes.proofs.starts.registers_of.Given as goal

-- those so far
abbrev pub invariant-loop-number : goal.invariant-loop-number
invariant-loop-number l = l.registers.items ≡ map (read l.hart) (range_with_len 0 l.number)
