use Rattle.std.proofs.Common.{◌≡◌, ◌≤◌, ◌-◌, ◌++◌, take, drop, length}
use Rattle.rv_memory.specs.Held.{all_bytes, shown}
use Rattle.rv_memory.proofs.pages.copy.Given as goal

abbrev pub invariant-loop-done : goal.invariant-loop-done
invariant-loop-done l = record {
  bytes : l.out ≡ take l.done (drop l.address (all_bytes (shown l.text l.pages))) ++ drop l.done l.fn.out;
  inside : l.done ≤ length l.fn.out;
}

abbrev pub decreases-loop-done : goal.decreases-loop-done
decreases-loop-done l = length l.fn.out - l.done
