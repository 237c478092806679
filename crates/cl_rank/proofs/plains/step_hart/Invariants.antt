use Rattle.std.proofs.Common.{◌≤◌, ◌-◌}
use Rattle.cl_rank.specs.Plains.{IsHartStep, Repeats}
use Rattle.cl_rank.proofs.plains.step_hart.Given as goal

abbrev pub invariant-loop-done : goal.invariant-loop-done
invariant-loop-done l = record {
  within : l.done ≤ l.most;
  steps : Repeats IsHartStep l.done (l.fn.hart, l.fn.memory) (l.hart, l.memory);
}

abbrev pub decreases-loop-done : goal.decreases-loop-done
decreases-loop-done l = l.most - l.done
