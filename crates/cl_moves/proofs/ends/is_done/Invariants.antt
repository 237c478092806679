use Rattle.std.proofs.Common.{ℕ, ◌<◌, ◌≡◌, Some, slice_get}
use Rattle.cl_state.specs.Room.{rank_of}
use Rattle.cl_state_laws.specs.Vain.{IsStopped, mode_of}
use Rattle.cl_moves.proofs.ends.is_done.Given as goal

-- the harts before this one are stopped
abbrev pub invariant-loop-hart : goal.invariant-loop-hart
invariant-loop-hart l =
    (i : ℕ) → i < l.hart-index → (hart : ℕ) → slice_get l.order i ≡ Some hart → IsStopped (mode_of (rank_of l.own) hart)
