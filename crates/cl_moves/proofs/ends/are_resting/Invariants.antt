use Rattle.std.proofs.Common.{ℕ, ◌<◌, ◌≡◌, Some, slice_get}
use Rattle.rv_image_types.specs.declared.images.ImageParts.{ImageParts}
use Rattle.cl_state.specs.Room.{rank_of}
use Rattle.cl_machine.specs.Cluster.{Cluster}
use Rattle.cl_replay.specs.States.{ClusterStandsFor}
use Rattle.cl_moves.specs.Ends.{IsResting}
use Rattle.cl_moves.proofs.ends.are_resting.Given as goal

-- the harts before this one are
abbrev pub invariant-loop-hart : goal.invariant-loop-hart
invariant-loop-hart l =
    (image : ImageParts) (cluster : Cluster) → ClusterStandsFor image l.state cluster → (i : ℕ) → i < l.hart-index
    → (hart : ℕ) → slice_get l.order i ≡ Some hart → IsResting cluster l.rank (rank_of l.own) hart
