-- What a closed list tells of runs that never end.
use Rattle.std.specs.Prelude.{ℕ, ◌≡◌, Bool, IsTrue, List, slice_get, Some}
use Rattle.cl_machine.specs.declared.steps.Step.{Step}
use Rattle.cl_machine.specs.Cluster.{Cluster, IsRun}
use Rattle.cl_order_laws.specs.Closed.{FollowPlans, IsClosed, IsCovered, Node, Plans, had_after}
use Rattle.cl_order_laws.specs.Sure.{HasPostsWithin, IsClosedAtOnce, IsSettledBy}
use Rattle.cl_outcome_laws.specs.Companies.{IsCompany}
use Rattle.cl_outcome_laws.specs.Graphs.{Edges, HasPosts, HaveHarts, IsGraph, IsTrap, Reaches}
use Rattle.cl_outcome_laws.specs.Unending.{MayEnd, NeverEnds}

-- ---- ranks that are stuck together

-- they are a company at one of the nodes
abbrev pub HasCompany : List ℕ → List Node → Type 0
HasCompany ranks nodes =
    (i : ℕ) × (node : Node) × (slice_get nodes i ≡ Some node) × IsCompany ranks node.cluster

-- wherever a run leads that follows the plans, of any length and with any order of the ranks: ranks that are a company
-- there are one at some node. The run needn't be at its end
pub record CompanyLaw : Type 0 where
  -- of a list that is closed
  pub covered : (plans : Plans) (nodes : List Node) (start : Node) → IsCovered plans nodes start → IsClosed plans nodes
      → (steps : List Step) (end : Cluster) → IsRun start.cluster steps end → FollowPlans plans start.had steps
      → (ranks : List ℕ) → IsCompany ranks end
      → HasCompany ranks nodes
  -- and of one that follows turns of sure ranks alone
  pub at_once : (plans : Plans) (most : ℕ) (nodes : List Node) (start : Node) → IsSettledBy plans most nodes start
      → HasPostsWithin most start.cluster → IsClosedAtOnce plans most nodes
      → (steps : List Step) (end : Cluster) → IsRun start.cluster steps end → FollowPlans plans start.had steps
      → (ranks : List ℕ) → IsCompany ranks end
      → HasCompany ranks nodes

-- ---- runs that never end

pub record UnendingLaw : Type 0 where
  -- from inside a trap no turns lead to an end
  pub never : (sure : Bool) (plans : Plans) (most : ℕ) (nodes : List Node) (edges : Edges) (inside : ℕ → Bool)
      → IsGraph sure plans most nodes edges → IsTrap plans nodes edges inside
      → (i : ℕ) (node : Node) → IsTrue (inside i) → slice_get nodes i ≡ Some node
      → NeverEnds plans node
  -- where an edge leads to a node from which turns lead to an end, some do from the node before it
  pub path : (sure : Bool) (plans : Plans) (most : ℕ) (nodes : List Node) (edges : Edges)
      → IsGraph sure plans most nodes edges
      → (i j : ℕ) (from to : Node) → IsTrue (edges i j) → slice_get nodes i ≡ Some from → slice_get nodes j ≡ Some to
      → MayEnd plans to
      → MayEnd plans from
  -- where turns lead from each node to an end, some do wherever a run leads that follows the plans, of any length and
  -- with any order of the ranks
  pub may : (sure : Bool) (plans : Plans) (most : ℕ) (nodes : List Node) (edges : Edges) (start : Node)
      → IsGraph sure plans most nodes edges → Reaches sure plans most nodes start → HasPosts sure most start.cluster
      → HaveHarts plans start.cluster
      → ((i : ℕ) (node : Node) → slice_get nodes i ≡ Some node → MayEnd plans node)
      → (steps : List Step) (end : Cluster) → IsRun start.cluster steps end → FollowPlans plans start.had steps
      → MayEnd plans (record { cluster = end; had = had_after start.had steps })
