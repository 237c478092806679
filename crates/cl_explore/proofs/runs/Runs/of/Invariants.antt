use Rattle.std.proofs.Common.{◌≡◌, ◌++◌, length}
use Rattle.cl_explore.specs.Runs.{all_turns}
use Rattle.cl_explore.proofs.runs.Runs.of.Given as goal

abbrev pub invariant-loop-step : goal.invariant-loop-step
invariant-loop-step l = all_turns l.runs.items ++ l.left ≡ l.fn.steps

abbrev pub decreases-loop-step : goal.decreases-loop-step
decreases-loop-step l = length l.left
