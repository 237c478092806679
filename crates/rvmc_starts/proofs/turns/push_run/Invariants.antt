use Rattle.std.proofs.Common.{◌≡◌, ◌++◌, replicate}
use Rattle.rvmc_starts.proofs.turns.push_run.Given as goal

abbrev pub invariant-loop-place : goal.invariant-loop-place
invariant-loop-place l =
    l.turns.items ≡ l.fn.turns.items ++ replicate l._place l.run.turn
