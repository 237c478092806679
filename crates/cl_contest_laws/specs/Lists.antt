-- Lists of nodes that are closed under turns of which those that nobody contests go first.
use Rattle.std.specs.Prelude.{ℕ, ◌≡◌, ◌⊎◌, IsTrue, List, [], ◌∷◌, Some}
use Rattle.std.specs.List.{slice_get}
use Rattle.cl_state.specs.Rank.{Rank}
use Rattle.cl_machine.specs.Cluster.{Cluster}
use Rattle.cl_order_laws.specs.Closed.{IsDone, Node, Plans}
use Rattle.cl_order_laws.specs.Laws.{IsReached}
use Rattle.cl_order_laws.specs.Sure.{WhereverLeads}
use Rattle.cl_outcome_laws.specs.Graphs.{Edges}
use Rattle.cl_outcome_laws.specs.Unending.{IsAfter}
use Rattle.cl_reduction_laws.specs.Below.{AreAlike}
use Rattle.cl_reduction_laws.specs.Clusters.{IsGood, Search}
use Rattle.cl_reduction_laws.specs.Settled.{IsFit, IsSettled, IsSingle}

-- it is the cluster of a node of the list
abbrev pub IsOneOf : List Node → Cluster → Type 0
IsOneOf nodes c = (i : ℕ) × (node : Node) × (slice_get nodes i ≡ Some node) × (node.cluster ≡ c)

-- where a search may begin: a cluster that was reached, of ranks with one hart each
pub record StartsWell (search : Search) (plans : Plans) (c : Cluster) : Type 0 where
  pub reached : IsReached c
  pub single : IsSingle search plans c
  pub good : IsGood search c

-- of each node and each rank: its hart is stopped, or wherever its next turn may lead is settled
pub record IsClosedByContest (search : Search) (plans : Plans) (nodes : List Node) : Type 0 where
  pub closed : (i r : ℕ) (node : Node) (rank : Rank) → slice_get nodes i ≡ Some node
      → slice_get node.cluster.ranks r ≡ Some rank
      → IsDone (plans r) rank
      ⊎ WhereverLeads plans node r (λ next. IsSettled search (IsOneOf nodes) next.cluster)
  pub fit : (i : ℕ) (node : Node) → slice_get nodes i ≡ Some node → IsFit search node.cluster

-- a node to which an edge leads from this one settles what stands here
pub record HasEdge (search : Search) (nodes : List Node) (edges : Edges) (i : ℕ) (here : Node) : Type 0 where
  pub j : ℕ
  pub to : Node
  pub edge : IsTrue (edges i j)
  pub there : slice_get nodes j ≡ Some to
  pub settles : IsSettled search (IsOneOf (to ∷ [])) here.cluster

-- a closed list whose edges say which node leads to which
pub record IsContestGraph (search : Search) (plans : Plans) (nodes : List Node) (edges : Edges) : Type 0 where
  pub closed : (i r : ℕ) (node : Node) (rank : Rank) → slice_get nodes i ≡ Some node
      → slice_get node.cluster.ranks r ≡ Some rank
      → IsDone (plans r) rank ⊎ WhereverLeads plans node r (HasEdge search nodes edges i)
  pub fit : (i : ℕ) (node : Node) → slice_get nodes i ≡ Some node → IsFit search node.cluster
  -- turns lead along each edge, to what is alike
  pub leads : (i j : ℕ) (from to : Node) → IsTrue (edges i j) → slice_get nodes i ≡ Some from → slice_get nodes j ≡ Some to
      → (there : Node) × IsAfter plans from there × AreAlike search.wild there.cluster to.cluster
  pub well : (i : ℕ) (node : Node) → slice_get nodes i ≡ Some node → IsReached node.cluster
