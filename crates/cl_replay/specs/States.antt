-- Which cluster a state stands for.
use Rattle.std.specs.Prelude.{ℕ, ◌≡◌, ◌≤◌, ◌+◌, ◌*◌, length, map, slice_get, Some}
use Rattle.rv_image_types.specs.declared.images.ImageParts.{ImageParts}
use Rattle.mp_hub.specs.Outcomes.{StandsFor as HubStandsFor}
use Rattle.cl_state.specs.Rank.{Rank}
use Rattle.cl_state.specs.Room.{rank_of}
use Rattle.cl_machine.specs.Keys.{ShowsAll}
use Rattle.cl_machine.specs.Boxes.{Box}
use Rattle.cl_machine.specs.Cluster.{Cluster}
use Rattle.cl_journal.specs.Journal.{calls_of}
use Rattle.cl_replay.specs.declared.states.ClusterState.{ClusterState}

-- a cluster of the image, wherever a run of it has come: its ranks know the image's version, its hub the image's links,
-- there were no more calls than the hub's clock tells, each link has 16 boxes, and no box holds two things
pub record IsClusterOf (image : ImageParts) (cluster : Cluster) : Type 0 where
  pub versions : (r : ℕ) (rank : Rank) → slice_get cluster.ranks r ≡ Some rank → rank.site.version ≡ image.version
  pub links : cluster.journal.links ≡ image.links
  pub calls : length cluster.journal.entries ≤ cluster.journal.clock
  pub boxes : length cluster.boxes ≡ 16 * length image.links
  pub one_thing : (n : ℕ) (box : Box) → slice_get cluster.boxes n ≡ Some box → length box.made ≤ box.taken + 1

-- the state is this cluster of the image: its ranks are the cluster's, its hub stands for the calls of the cluster's
-- journal, its clock is the journal's, and its boxes show the cluster's
pub record ClusterStandsFor (image : ImageParts) (state : ClusterState) (cluster : Cluster) : Type 0 where
  pub of : IsClusterOf image cluster
  pub ranks_are : cluster.ranks ≡ map rank_of state.ranks.items
  pub hub_stands : HubStandsFor state.hub image.links (calls_of cluster.journal.entries)
  pub clock_is : state.clock ≡ cluster.journal.clock
  pub boxes_show : ShowsAll image state.boxes.items cluster.boxes
