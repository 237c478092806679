use Rattle.std.proofs.Common.{◌≡◌, ◌++◌, length, reverse}
use Rattle.cl_explore.specs.Runs.{all_turns}
use Rattle.cl_explore.proofs.runs.Runs.go_back.Given as goal

abbrev pub invariant-loop-run : goal.invariant-loop-run
invariant-loop-run l = l.back.items ++ reverse (all_turns l.left) ≡ l.fn.back.items ++ reverse l.self

abbrev pub decreases-loop-run : goal.decreases-loop-run
decreases-loop-run l = length l.left
