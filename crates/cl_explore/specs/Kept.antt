-- Nodes that are kept, and standings that are alike one.
use Rattle.std.specs.Prelude.{ℕ, zero, suc, ◌≡◌, ◌<◌, ◌%◌, ◌⊎◌, List, [], length, map, slice_get, Some}
use Rattle.rv_image_types.specs.declared.images.ImageParts.{ImageParts}
use Rattle.cl_machine.specs.declared.steps.Step.{Step}
use Rattle.cl_deeds.specs.Orders.{in_slot}
use Rattle.cl_state.specs.Room.{rank_of}
use Rattle.cl_state.specs.declared.state.RankState.{RankState}
use Rattle.cl_replay.specs.declared.states.ClusterState.{ClusterState}
use Rattle.cl_replay.specs.Kept.{RanksAt, Snapshot, ranks_at, snapshot, with_hub}
use Rattle.cl_replay.specs.States.{ClusterStandsFor, IsClusterOf}
use Rattle.cl_machine.specs.Keys.{ShowsAll}
use Rattle.cl_order_laws.specs.Alike.{hub_of}
use Rattle.cl_order_laws.specs.Closed.{IsDone, Node}
use Rattle.cl_moves.specs.Standing.{HaveHad, IsWay, StandsAt, by_order, first_node}
use Rattle.cl_moves.specs.declared.standing.Standing.{Standing}
use Rattle.cl_explore.specs.How.{AreAlikeIn, How}
use Rattle.cl_explore.specs.declared.kept.KeptNode.{KeptNode}

-- the cluster that a node keeps: its ranks and boxes, with the hub of all posts ever made, which is the cluster's
abbrev pub cluster_of : KeptNode → Snapshot
cluster_of kept = with_hub kept.cluster kept.whole

-- what is kept is the node: its parts are the node's, and a state that has these parts is its cluster
pub record KeptStandsAt (image : ImageParts) (kept : KeptNode) (node : Node) : Type 0 where
  pub of : IsClusterOf image node.cluster
  pub ranks_are : node.cluster.ranks ≡ kept.cluster.ranks
  pub boxes_show : ShowsAll image kept.cluster.boxes node.cluster.boxes
  pub whole : kept.whole ≡ hub_of node.cluster.journal
  pub stands : (state : ClusterState) → snapshot state ≡ cluster_of kept → ClusterStandsFor image state node.cluster
  pub had : HaveHad kept.had.items node.had
  pub each : length kept.had.items ≡ length node.cluster.ranks
  pub few : length node.cluster.ranks < 256

-- a standing is at the node, and no turn is noted
pub record IsLiveAt (image : ImageParts) (standing : Standing) (node : Node) : Type 0 where
  pub stands : StandsAt image standing node
  pub steps : standing.steps.items ≡ []

-- what is kept of a standing beside its ranks, which were kept as this
pub record IsKeptAs (standing : Standing) (cluster : RanksAt) (parent : ℕ) (kept : KeptNode) : Type 0 where
  pub cluster_is : kept.cluster ≡ cluster
  pub whole : kept.whole ≡ standing.whole
  pub had : kept.had.items ≡ standing.had.items
  pub parent_is : kept.parent ≡ parent
  pub turns : kept.turns ≡ standing.steps.items

-- what is kept of a standing, whose turns led from the node of this number
pub record IsKeptOf (standing : Standing) (parent : ℕ) (kept : KeptNode) : Type 0 where
  pub cluster : kept.cluster ≡ ranks_at standing.cluster
  pub whole : kept.whole ≡ standing.whole
  pub had : kept.had.items ≡ standing.had.items
  pub parent_is : kept.parent ≡ parent
  pub turns : kept.turns ≡ standing.steps.items

-- a standing at a node, of which no turn is noted
pub record IsLiveOf (kept : KeptNode) (standing : Standing) : Type 0 where
  pub cluster : snapshot standing.cluster ≡ cluster_of kept
  pub whole : standing.whole ≡ kept.whole
  pub had : standing.had.items ≡ kept.had.items
  pub steps : standing.steps.items ≡ []

-- a run from the loaded cluster leads to the node, by the order
abbrev pub IsFound : ImageParts → List ℕ → Node → Type 0
IsFound image order node = (steps : List Step) × IsWay (by_order order) (first_node image) steps node

-- the node from which the one of this number was found, of which the parent is told: an earlier one, or for the first
-- node the loaded cluster
abbrev pub IsBefore : ImageParts → List Node → ℕ → ℕ → Node → Type 0
IsBefore image nodes parent zero before = before ≡ first_node image
IsBefore image nodes parent (suc i) before = (parent < suc i) × (slice_get nodes parent ≡ Some before)

-- the turns of the kept node led from that one to the node, by the order
pub record IsLed (image : ImageParts) (order : List ℕ) (nodes : List Node) (i : ℕ) (kept : KeptNode) (node : Node)
    : Type 0 where
  pub before : Node
  pub from : IsBefore image nodes kept.parent i before
  pub way : IsWay (by_order order) before kept.turns node

-- whichever nodes they are, to which runs led, their clusters are alike
abbrev pub IsAlikeKept : How → List ℕ → Standing → KeptNode → Type 0
IsAlikeKept how order standing kept =
    (image : ImageParts) (one other : Node) → StandsAt image standing one → KeptStandsAt image kept other
    → IsFound image order one → IsFound image order other → AreAlikeIn how one.cluster other.cluster

-- all harts of the rank of this number are stopped
abbrev pub IsDoneAt : List ℕ → Standing → ℕ → Type 0
IsDoneAt order standing r =
    (own : RankState) → slice_get standing.cluster.ranks.items r ≡ Some own → IsDone (in_slot order) (rank_of own)

-- in each rank it is the turn of harts at the same place of the order, unless all its harts are stopped
abbrev pub AreSamePlaces : List ℕ → Standing → List ℕ → Type 0
AreSamePlaces order standing other =
    (r n m : ℕ) → slice_get standing.had.items r ≡ Some n → slice_get other r ≡ Some m
    → (n % length order ≡ m % length order) ⊎ IsDoneAt order standing r

-- ---- what stays

-- of two lists of counts all but that of this rank are the same
pub record AreSameBeside (had before : List ℕ) (rank : ℕ) : Type 0 where
  pub many : length had ≡ length before
  pub each : (r : ℕ) → (r ≡ rank → ⊥) → slice_get had r ≡ slice_get before r

-- each rank that has had as many turns as when the node was kept is as it was then
pub record HaveStayed (kept : KeptNode) (standing : Standing) : Type 0 where
  pub counted : length kept.had.items ≡ length kept.cluster.ranks
  pub many : length standing.had.items ≡ length standing.cluster.ranks.items
  pub each : (r n : ℕ) → slice_get kept.had.items r ≡ Some n → slice_get standing.had.items r ≡ Some n
      → slice_get kept.cluster.ranks r ≡ slice_get (map rank_of standing.cluster.ranks.items) r

-- since the node of this number, if there is one
abbrev pub HaveStayedSince : List KeptNode → ℕ → Standing → Type 0
HaveStayedSince nodes parent standing = (k : KeptNode) → slice_get nodes parent ≡ Some k → HaveStayed k standing
