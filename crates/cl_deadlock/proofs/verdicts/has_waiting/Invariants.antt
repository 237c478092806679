use Rattle.std.proofs.Common.{ℕ, ◌<◌}
use Rattle.cl_state.specs.Room.{rank_of}
use Rattle.cl_state_laws.specs.Vain.{IsWaiting, mode_of}
use Rattle.cl_deadlock.proofs.verdicts.has_waiting.Given as goal

-- of the harts so far none waits
abbrev pub invariant-loop-number : goal.invariant-loop-number
invariant-loop-number l = (hart : ℕ) → hart < l.number → IsWaiting (mode_of (rank_of l.own) hart) → ⊥
