-- The hart did the steps that were taken so far.
use Rattle.std.proofs.Common.{◌≡◌, ◌+◌}
use Rattle.cl_replay.specs.Walking.{hart_at}
use Rattle.cl_check.specs.Texts.{HasRun}
use Rattle.cl_check.proofs.texts.run_hart.Given as goal

abbrev pub invariant-loop-n : goal.invariant-loop-n
invariant-loop-n l =
    (l.clock ≡ l.last.stamp + l._n)
    × HasRun l.image l.last (hart_at l.fn.hart l.fn.memory l.last.stamp) l.bytes (hart_at l.hart l.memory l.clock) l.rest
