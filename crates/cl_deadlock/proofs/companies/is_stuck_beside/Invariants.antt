use Rattle.std.proofs.Common.{ℕ, ◌<◌, ◌⊎◌}
use Rattle.rv_image_types.specs.declared.images.ImageParts.{ImageParts}
use Rattle.cl_state.specs.Room.{rank_of}
use Rattle.cl_state_laws.specs.Vain.{IsStopped, mode_of}
use Rattle.cl_replay.specs.Below.{Cluster}
use Rattle.cl_replay.specs.States.{ClusterStandsFor}
use Rattle.cl_deadlock_laws.specs.Stuck.{IsStuckHart}
use Rattle.cl_deadlock.proofs.companies.is_stuck_beside.Given as goal

-- the harts before this one are stopped or held
abbrev pub invariant-loop-number : goal.invariant-loop-number
invariant-loop-number l =
    (hart : ℕ) → hart < l.number → (image : ImageParts) (cluster : Cluster) → ClusterStandsFor image l.state cluster
    → IsStopped (mode_of (rank_of l.own) hart) ⊎ IsStuckHart l.among cluster l.rank (rank_of l.own) hart
