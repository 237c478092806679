-- Where a search stands: which node its state is, and how it came there.
use Rattle.std.specs.Prelude.{ℕ, ◌≡◌, ◌<◌, ◌≤◌, List, [], length, slice_get, Option, Some, None, Bool, true, false}
use Rattle.rv_image_types.specs.declared.images.ImageParts.{ImageParts}
use Rattle.cl_deeds.specs.Orders.{in_slot}
use Rattle.cl_machine.specs.Cluster.{Cluster, IsRun, IsStep, loaded_cluster}
use Rattle.cl_machine.specs.declared.steps.Step.{Step}
use Rattle.cl_replay.specs.States.{ClusterStandsFor}
use Rattle.cl_order_laws.specs.Alike.{hub_of}
use Rattle.cl_order_laws.specs.Closed.{FollowPlans, Node, Plans, Turns, had_after, none_had, one_more}
use Rattle.cl_moves.specs.declared.standing.Standing.{Standing}

-- of each rank these harts take the turns, round and round
abbrev pub by_order : List ℕ → Plans
by_order order rank = in_slot order

abbrev pub node_of : Cluster → Turns → Node
node_of cluster had = record { cluster = cluster; had = had }

-- the list has how many turns each rank has had
abbrev pub HaveHad : List ℕ → Turns → Type 0
HaveHad counts had = (r n : ℕ) → slice_get counts r ≡ Some n → had r ≡ n

-- the state is the node's cluster, the hub that forgets nothing is its hub, and each rank has had as many turns
pub record StandsAt (image : ImageParts) (standing : Standing) (node : Node) : Type 0 where
  pub stands : ClusterStandsFor image standing.cluster node.cluster
  pub whole : standing.whole ≡ hub_of node.cluster.journal
  pub had : HaveHad standing.had.items node.had
  pub each : length standing.had.items ≡ length node.cluster.ranks
  pub few : length node.cluster.ranks < 256

-- the steps lead from one node to the other, by the plans
pub record IsWay (plans : Plans) (start : Node) (steps : List Step) (here : Node) : Type 0 where
  pub run : IsRun start.cluster steps here.cluster
  pub follow : FollowPlans plans start.had steps
  pub had : here.had ≡ had_after start.had steps

-- the turn led on: whichever node the old standing was, its next turn by the plans leads to one that the new standing is,
-- and stands behind those that led there
abbrev pub Took : Standing → Step → Standing → Type 0
Took old e new =
    (image : ImageParts) (plans : Plans) (start here : Node) → StandsAt image old here
    → IsWay plans start old.steps.items here → e.hart ≡ plans e.rank (here.had e.rank)
    → (next : Cluster) × IsStep here.cluster e next
    × StandsAt image new (node_of next (one_more here.had e.rank))
    × IsWay plans start new.steps.items (node_of next (one_more here.had e.rank))

-- whichever node it is, the turn leads nowhere
abbrev pub HasNoTurn : Standing → Step → Type 0
HasNoTurn old e = (image : ImageParts) (here : Node) (next : Cluster) → StandsAt image old here → ¬ IsStep here.cluster e next

abbrev pub Takes : Standing → Step → Standing → Bool → Type 0
Takes old e new true = Took old e new
Takes old e new false = HasNoTurn old e

-- the loaded cluster of the image, of which no rank has had a turn
abbrev pub first_node : ImageParts → Node
first_node image = node_of (loaded_cluster image) none_had

pub record IsStart (image : ImageParts) (standing : Standing) : Type 0 where
  pub stands : StandsAt image standing (first_node image)
  pub steps : standing.steps.items ≡ []

-- the hart whose turn is next in a rank, by the order; none only where the rank isn't there
abbrev pub IsNextHart : List ℕ → Standing → ℕ → Option ℕ → Type 0
IsNextHart order standing rank None = length standing.had.items ≤ rank
IsNextHart order standing rank (Some hart) =
    (had : ℕ) × (slice_get standing.had.items rank ≡ Some had) × (hart ≡ in_slot order had)
