-- Closed lists of nodes as graphs: which node leads to which.
use Rattle.std.specs.Prelude.{ℕ, ◌<◌, ◌≡◌, ◌⊎◌, Bool, true, false, IsTrue, List, [], ◌∷◌, length, slice_get, Some}
use Rattle.mp_alike_laws.specs.Renaming.{Renaming}
use Rattle.cl_state.specs.Rank.{Rank}
use Rattle.cl_machine.specs.Cluster.{Cluster}
use Rattle.cl_order_laws.specs.Alike.{AlikeClusters, hub_of}
use Rattle.cl_order_laws.specs.Closed.{IsCovered, IsDone, IsEnd, IsSamePlace, Node, Plans}
use Rattle.cl_order_laws.specs.Laws.{AreAlike}
use Rattle.cl_order_laws.specs.Sure.{HasPostsWithin, IsSettledBy, WhereverLeads}
use Rattle.cl_outcome_laws.specs.Unending.{IsAfter}

-- their clusters are alike, and in each rank the same harts take turns, unless all are stopped
pub record AreAlikeNodes (plans : Plans) (one other : Node) : Type 0 where
  pub names : Renaming
  pub alike : AlikeClusters names one.cluster other.cluster
  pub places : (r : ℕ) (rank : Rank) → slice_get one.cluster.ranks r ≡ Some rank
      → IsSamePlace (plans r) (one.had r) (other.had r) ⊎ IsDone (plans r) rank

-- the nodes cover it, or, where turns of sure ranks are taken at once, they settle it
abbrev pub Reaches : Bool → Plans → ℕ → List Node → Node → Type 0
Reaches true plans most nodes here = IsSettledBy plans most nodes here
Reaches false plans most nodes here = IsCovered plans nodes here

-- then fewer posts were made than so many, or no more
abbrev pub HasRoom : Bool → ℕ → Cluster → Type 0
HasRoom true most cluster = length (hub_of cluster.journal).board.lines < most
HasRoom false most cluster = Unit {0}

abbrev pub HasPosts : Bool → ℕ → Cluster → Type 0
HasPosts true most cluster = HasPostsWithin most cluster
HasPosts false most cluster = Unit {0}

-- whether an edge goes from one node to another, by their numbers
abbrev pub Edges : Type 0
Edges = ℕ → ℕ → Bool

-- a node to which an edge leads from this one reaches what stands here
pub record HasEdge (sure : Bool) (plans : Plans) (most : ℕ) (nodes : List Node) (edges : Edges) (i : ℕ) (here : Node)
    : Type 0 where
  pub j : ℕ
  pub to : Node
  pub edge : IsTrue (edges i j)
  pub there : slice_get nodes j ≡ Some to
  pub reaches : Reaches sure plans most (to ∷ []) here

-- a closed list whose edges say which node leads to which
pub record IsGraph (sure : Bool) (plans : Plans) (most : ℕ) (nodes : List Node) (edges : Edges) : Type 0 where
  -- of each node and each rank: all harts that its plan names are stopped, or there is an edge for wherever its next
  -- turn may lead
  pub closed : (i r : ℕ) (node : Node) (rank : Rank) → slice_get nodes i ≡ Some node
      → slice_get node.cluster.ranks r ≡ Some rank
      → IsDone (plans r) rank ⊎ WhereverLeads plans node r (HasEdge sure plans most nodes edges i)
  pub room : (i : ℕ) (node : Node) → slice_get nodes i ≡ Some node → HasRoom sure most node.cluster
  -- turns lead along each edge
  pub leads : (i j : ℕ) (from to : Node) → IsTrue (edges i j) → slice_get nodes i ≡ Some from → slice_get nodes j ≡ Some to
      → (there : Node) × IsAfter plans from there × AreAlikeNodes plans there to
  pub itself : (i : ℕ) (node : Node) → slice_get nodes i ≡ Some node → AreAlike node.cluster node.cluster

-- no edge leaves these nodes, and none of them is an end
pub record IsTrap (plans : Plans) (nodes : List Node) (edges : Edges) (inside : ℕ → Bool) : Type 0 where
  pub stays : (i j : ℕ) → IsTrue (inside i) → IsTrue (edges i j) → IsTrue (inside j)
  pub no_end : (i : ℕ) (node : Node) → IsTrue (inside i) → slice_get nodes i ≡ Some node → ¬ IsEnd plans node.cluster

-- each hart that a plan names is one of its rank's
abbrev pub HaveHarts : Plans → Cluster → Type 0
HaveHarts plans cluster =
    (r n : ℕ) (rank : Rank) → slice_get cluster.ranks r ≡ Some rank → plans r n < length rank.harts
