-- A search that was cut: some nodes were visited, and each of those left is searched by itself.
use Rattle.std.specs.Prelude.{ℕ, ◌≡◌, ◌⊎◌, List, ◌++◌, slice_get, Some}
use Rattle.cl_state.specs.Rank.{Rank}
use Rattle.cl_machine.specs.declared.steps.Step.{Step}
use Rattle.cl_machine.specs.Cluster.{Cluster, IsRun}
use Rattle.cl_order_laws.specs.Alike.{Leads}
use Rattle.cl_order_laws.specs.Closed.{FollowPlans, IsClosed, IsCovered, IsDone, IsEnd, Node, Plans, one_more}
use Rattle.cl_order_laws.specs.Laws.{AreAlike}

-- of each node that was visited and each rank: all harts that its plan names are stopped, or wherever its next turn may
-- lead is covered by the nodes
abbrev pub AreClosedOver : Plans → List Node → List Node → Type 0
AreClosedOver plans visited nodes =
    (i r : ℕ) (node : Node) (rank : Rank) → slice_get visited i ≡ Some node
    → slice_get node.cluster.ranks r ≡ Some rank
    → IsDone (plans r) rank
    ⊎ ((e : Step) (new : Cluster) → e.rank ≡ r → e.hart ≡ plans r (node.had r) → Leads node.cluster e new
    → IsCovered plans nodes (record { cluster = new; had = one_more node.had r }))

-- each of the lists is closed
abbrev pub AreClosed : Plans → List (List Node) → Type 0
AreClosed plans parts = (k : ℕ) (nodes : List Node) → slice_get parts k ≡ Some nodes → IsClosed plans nodes

-- each node that is left is covered by one of the lists
abbrev pub AreCovered : Plans → List (List Node) → List Node → Type 0
AreCovered plans parts left =
    (i : ℕ) (node : Node) → slice_get left i ≡ Some node
    → (k : ℕ) × (nodes : List Node) × (slice_get parts k ≡ Some nodes) × IsCovered plans nodes node

-- one of the nodes is alike the cluster
abbrev pub HasAlike : List Node → Cluster → Type 0
HasAlike nodes end = (i : ℕ) × (node : Node) × (slice_get nodes i ≡ Some node) × AreAlike end node.cluster

-- where the nodes that were visited lead to one another or to those left, and each of those left is covered by a closed
-- list, the nodes visited and the lists have each end, of every run that follows the plans
abbrev pub SplitLaw : Type 0
SplitLaw =
    (plans : Plans) (before left : List Node) (start : Node) (parts : List (List Node))
    → IsCovered plans (before ++ left) start → AreClosedOver plans before (before ++ left) → AreClosed plans parts
    → AreCovered plans parts left
    → (steps : List Step) (end : Cluster) → IsRun start.cluster steps end → FollowPlans plans start.had steps
    → IsEnd plans end
    → HasAlike before end
    ⊎ ((k : ℕ) × (nodes : List Node) × (i : ℕ) × (node : Node) × (slice_get parts k ≡ Some nodes)
    × (slice_get nodes i ≡ Some node) × AreAlike end node.cluster)

-- ---- alike clusters

-- what covers a cluster covers each that is alike it, where as many turns were had
abbrev pub LikewiseLaw : Type 0
LikewiseLaw =
    (plans : Plans) (nodes : List Node) (a b : Node) → IsCovered plans nodes a → AreAlike a.cluster b.cluster
    → a.had ≡ b.had
    → IsCovered plans nodes b
