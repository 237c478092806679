use Rattle.std.proofs.Common.{◌≡◌, ◌+◌, ◌-◌}
use Rattle.rvmc_starts.specs.Using.{lacking}
use Rattle.rvmc_starts.proofs.using.lacking.Given as goal

abbrev pub invariant-loop-done : goal.invariant-loop-done
invariant-loop-done l =
    lacking l.parts 1 l.count ≡ lacking l.parts (l.done + 1) (l.count - l.done)
