use Rattle.std.proofs.Common.{ℕ, ◌<◌, ◌≡◌, Some, slice_get}
use Rattle.rv_image_types.specs.declared.images.ImageParts.{ImageParts}
use Rattle.cl_state.specs.Room.{rank_of}
use Rattle.cl_state.specs.declared.state.RankState.{RankState}
use Rattle.cl_machine.specs.Cluster.{Cluster}
use Rattle.cl_replay.specs.States.{ClusterStandsFor}
use Rattle.cl_moves.specs.Ends.{AreResting}
use Rattle.cl_moves.proofs.ends.is_end.Given as goal

-- the harts of the ranks before this one are
abbrev pub invariant-loop-rank : goal.invariant-loop-rank
invariant-loop-rank l =
    (image : ImageParts) (cluster : Cluster) → ClusterStandsFor image l.state cluster → (r : ℕ) → r < l.rank
    → (own : RankState) → slice_get l.state.ranks.items r ≡ Some own → AreResting cluster r (rank_of own) l.order
