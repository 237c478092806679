-- What a list that is closed so tells of every run.
use Rattle.std.specs.Prelude.{ℕ, ◌≡◌, Bool, true, IsTrue, List, Some}
use Rattle.std.specs.List.{slice_get}
use Rattle.rv_image_types.specs.declared.images.ImageParts.{ImageParts}
use Rattle.mp_clash_laws.specs.Exchanges.{WaitsWithin}
use Rattle.cl_state.specs.Rank.{Rank}
use Rattle.cl_state_laws.specs.Awake.{StandsAtCall}
use Rattle.cl_machine.specs.Cluster.{Cluster, IsRun}
use Rattle.cl_machine.specs.declared.steps.Step.{Step}
use Rattle.cl_deadlock_laws.specs.Stuck.{IsReachable}
use Rattle.cl_order_laws.specs.Alike.{hub_of}
use Rattle.cl_order_laws.specs.Closed.{FollowPlans, IsEnd, Node, Plans, had_after}
use Rattle.cl_reduction_laws.specs.Below.{AreAlike}
use Rattle.cl_order_laws.specs.Sure.{GoesOn}
use Rattle.cl_outcome_laws.specs.Companies.{IsCompany}
use Rattle.cl_outcome_laws.specs.Graphs.{Edges, IsTrap}
use Rattle.cl_outcome_laws.specs.Laws.{HasCompany}
use Rattle.cl_outcome_laws.specs.Unending.{MayEnd, NeverEnds}
use Rattle.cl_rest_laws.specs.Buffering.{NeedBuffers}
use Rattle.cl_reduction_laws.specs.Clusters.{IsGood, Search}
use Rattle.cl_reduction_laws.specs.Settled.{AllWithin, IsSettled}
use Rattle.cl_contest_laws.specs.Lists.{IsClosedByContest, IsContestGraph, IsOneOf, StartsWell}

-- a node at which nobody goes on is alike the cluster: the same but for clocks, stamps, the numbers of posts, and the order of
-- messages from different sources where nobody asks for any source
abbrev pub HasAlikeEnd : Search → Plans → List Node → Cluster → Type 0
HasAlikeEnd search plans nodes end =
    (i : ℕ) × (node : Node) × (slice_get nodes i ≡ Some node) × IsEnd plans node.cluster × AreAlike search.wild end node.cluster

-- the ranks need buffers at one of the nodes
abbrev pub HasNeed : List ℕ → List Node → Type 0
HasNeed ranks nodes = (i : ℕ) × (node : Node) × (slice_get nodes i ≡ Some node) × NeedBuffers ranks node.cluster

-- of every run that follows the plans, of any length and with any order of the ranks
pub record ContestLaw : Type 0 where
  -- where nobody goes on after it, its last cluster is alike a node at which nobody goes on
  pub ends : (search : Search) (plans : Plans) (nodes : List Node) (start : Node) → StartsWell search plans start.cluster
      → IsSettled search (IsOneOf nodes) start.cluster → IsClosedByContest search plans nodes
      → (steps : List Step) (end : Cluster) → IsRun start.cluster steps end → FollowPlans plans start.had steps
      → IsEnd plans end
      → HasAlikeEnd search plans nodes end
  -- and so where turns by the plans lead, whatever their stamps
  pub walks : (search : Search) (plans : Plans) (nodes : List Node) (start : Node) → StartsWell search plans start.cluster
      → IsSettled search (IsOneOf nodes) start.cluster → IsClosedByContest search plans nodes
      → (ranks : List ℕ) (last : Node) → GoesOn plans ranks start last → IsEnd plans last.cluster
      → HasAlikeEnd search plans nodes last.cluster
  -- ranks that are a company where it leads are one at some node. The run needn't be at its end
  pub companies : (search : Search) (plans : Plans) (nodes : List Node) (start : Node)
      → StartsWell search plans start.cluster → IsSettled search (IsOneOf nodes) start.cluster
      → IsClosedByContest search plans nodes
      → (steps : List Step) (end : Cluster) → IsRun start.cluster steps end → FollowPlans plans start.had steps
      → (ranks : List ℕ) → IsCompany ranks end
      → HasCompany ranks nodes
  -- ranks that need buffers where it leads do so at some node, where standard sends may wait for their receives
  pub buffering : (search : Search) (plans : Plans) (nodes : List Node) (start : Node)
      → StartsWell search plans start.cluster → IsSettled search (IsOneOf nodes) start.cluster
      → IsClosedByContest search plans nodes → search.may_wait ≡ true
      → (steps : List Step) (end : Cluster) → IsRun start.cluster steps end → FollowPlans plans start.had steps
      → (ranks : List ℕ) → NeedBuffers ranks end
      → HasNeed ranks nodes
  -- each rank asks within the patterns wherever it leads
  pub within : (search : Search) (plans : Plans) (nodes : List Node) (start : Node)
      → StartsWell search plans start.cluster → IsSettled search (IsOneOf nodes) start.cluster
      → IsClosedByContest search plans nodes
      → (steps : List Step) (end : Cluster) → IsRun start.cluster steps end → FollowPlans plans start.had steps
      → AllWithin search end

-- a search that began at some cluster, of which the nodes are a graph
pub record NeverEndsLaw : Type 0 where
  -- from inside a trap no turns lead to an end
  pub never : (search : Search) (plans : Plans) (nodes : List Node) (edges : Edges) (inside : ℕ → Bool) (start : Node)
      → StartsWell search plans start.cluster → IsContestGraph search plans nodes edges → IsTrap plans nodes edges inside
      → (i : ℕ) (node : Node) → IsTrue (inside i) → slice_get nodes i ≡ Some node → IsGood search node.cluster
      → NeverEnds plans node
  -- where an edge leads to a node from which turns lead to an end, some do from the node before it
  pub path : (search : Search) (plans : Plans) (nodes : List Node) (edges : Edges) (start : Node)
      → StartsWell search plans start.cluster → IsContestGraph search plans nodes edges
      → (i j : ℕ) (from to : Node) → IsTrue (edges i j) → slice_get nodes i ≡ Some from → slice_get nodes j ≡ Some to
      → IsGood search from.cluster
      → MayEnd plans to
      → MayEnd plans from
  -- where turns lead from each node to an end, some do wherever a run leads
  pub may : (search : Search) (plans : Plans) (nodes : List Node) (edges : Edges) (start : Node)
      → StartsWell search plans start.cluster → IsSettled search (IsOneOf nodes) start.cluster
      → IsContestGraph search plans nodes edges
      → ((i : ℕ) (node : Node) → slice_get nodes i ≡ Some node → MayEnd plans node)
      → (steps : List Step) (end : Cluster) → IsRun start.cluster steps end → FollowPlans plans start.had steps
      → MayEnd plans (record { cluster = end; had = had_after start.had steps })

-- whichever cluster a run led to is good where receives of any source wait only where those may be made, and harts that are to
-- make their calls anew stand at them
abbrev pub GoodLaw : Type 0
GoodLaw =
    (search : Search) (image : ImageParts) (c : Cluster) → IsReachable image c → WaitsWithin search.wild (hub_of c.journal)
    → ((r : ℕ) (rank : Rank) → slice_get c.ranks r ≡ Some rank → StandsAtCall rank (search.harts r))
    → IsGood search c

-- and a search may begin there if each rank has one hart, which alone the plans name
abbrev pub StartsWellLaw : Type 0
StartsWellLaw =
    (search : Search) (plans : Plans) (image : ImageParts) (c : Cluster) → ((r : ℕ) → search.harts r ≡ 0)
    → ((r n : ℕ) → plans r n ≡ 0) → image.harts ≡ 1 → IsReachable image c → IsGood search c
    → StartsWell search plans c
