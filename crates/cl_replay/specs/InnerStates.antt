-- States that are alike.
use Rattle.std.specs.Prelude.{◌≡◌, map}
use Rattle.rv_image_types.specs.declared.images.ImageParts.{ImageParts}
use Rattle.cl_state.specs.Room.{rank_of}
use Rattle.cl_machine.specs.Cluster.{Cluster}
use Rattle.cl_replay.specs.declared.states.ClusterState.{ClusterState}
use Rattle.cl_replay.specs.States.{ClusterStandsFor}

-- both states have the same ranks, hub, clock and boxes
pub record AreSame (one other : ClusterState) : Type 0 where
  pub ranks : map rank_of other.ranks.items ≡ map rank_of one.ranks.items
  pub hub : other.hub ≡ one.hub
  pub clock : other.clock ≡ one.clock
  pub boxes : other.boxes.items ≡ one.boxes.items

-- whichever cluster the one state is, the other is that too
abbrev pub StandsAlike : ClusterState → ClusterState → Type 0
StandsAlike one other =
    (image : ImageParts) (cluster : Cluster) → ClusterStandsFor image one cluster → ClusterStandsFor image other cluster
