use Rattle.std.proofs.Common.{◌≡◌, ◌+◌}
use Rattle.cl_replay.specs.Walking.{HartGoesOn, hart_at}
use Rattle.cl_replay.proofs.walking.run_hart.Given as goal

-- the hart did all steps up to here
abbrev pub invariant-loop-step : goal.invariant-loop-step
invariant-loop-step l =
    (l.reached ≡ l.fn.clock + l.step-index)
    × HartGoesOn l.run l.whose (hart_at l.fn.hart l.fn.memory l.fn.clock) l.step-index
    (hart_at l.hart l.memory l.reached)
