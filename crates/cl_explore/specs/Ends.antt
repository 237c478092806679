-- What an exploration tells.
use Rattle.std.specs.Prelude.{ℕ, ◌+◌, ◌<◌, ◌≤◌, ◌≡◌, ◌⊎◌, List, [], ◌∷◌, ◌++◌, length, slice_get, Option, Some, None, Bool, true, false}
use Rattle.rv_image_types.specs.Image.{IsImage}
use Rattle.rv_image_types.specs.declared.images.ImageParts.{ImageParts}
use Rattle.cl_machine.specs.Cluster.{Cluster, IsRun}
use Rattle.cl_machine.specs.declared.steps.Step.{Step}
use Rattle.cl_turns.specs.declared.Turn.{Turn}
use Rattle.cl_order_laws.specs.Alike.{hub_of}
use Rattle.cl_order_laws.specs.Closed.{FollowPlans, IsEnd, Node}
use Rattle.cl_contests.specs.Below.{Wild}
use Rattle.cl_contests.specs.Below.{AreAlike}
use Rattle.cl_rests.specs.Needing.{IsNoNeed}
use Rattle.cl_rests.specs.Sets.{AreResting}
use Rattle.cl_moves.specs.Standing.{IsWay, StandsAt, by_order, first_node}
use Rattle.cl_moves.specs.declared.standing.Standing.{Standing}
use Rattle.cl_explore.specs.Companies.{IsCompanyAt, IsJudged}
use Rattle.cl_explore.specs.Covering.{AreLeads, AreNodes, IsClosedAt, IsClosedFrom, Reaches}
use Rattle.cl_explore.specs.How.{HasRoom, How, IsFitFor, MayBegin, MayWaitIn, OnlyWaitIn, plainly}
use Rattle.cl_explore.specs.Orders.{IsOrderedWay}
use Rattle.cl_explore.specs.declared.companies.Company.{Company}
use Rattle.cl_explore.specs.declared.exploring.Exploration.{Exploration}
use Rattle.cl_explore.specs.declared.kept.KeptNode.{KeptNode}
use Rattle.cl_explore.specs.declared.leads.Lead.{Lead}
use Rattle.cl_explore.specs.declared.search.Search.{Search}

-- at each end that is told nobody goes on
abbrev pub AreEnds : List ℕ → List Node → List ℕ → Type 0
AreEnds order nodes ends =
    (k i : ℕ) → slice_get ends k ≡ Some i
    → (node : Node) × (slice_get nodes i ≡ Some node) × IsEnd (by_order order) node.cluster

-- the same but for clocks, stamps, the numbers of posts, and the order of unreceived messages from different sources
abbrev pub AreAlikeEnds : Cluster → Cluster → Type 0
AreAlikeEnds a b = (wild : Wild) × AreAlike wild a b

-- of whatever run of the machine from the start follows the order, and after which nobody goes on, the last cluster is
-- alike one of those that are told
abbrev pub AreAllEnds : List ℕ → Node → List Node → List ℕ → Type 0
AreAllEnds order start nodes ends =
    (steps : List Step) (end : Cluster) → IsRun start.cluster steps end
    → FollowPlans (by_order order) start.had steps → IsEnd (by_order order) end
    → (k : ℕ) × (i : ℕ) × (node : Node) × (slice_get ends k ≡ Some i) × (slice_get nodes i ≡ Some node)
    × AreAlikeEnds end node.cluster

-- what a search found: the nodes that are kept, which of them are ends, which ranks are stuck in which of them, between
-- which of them moves led, how many are left whose moves weren't made, whether standard sends might wait in it, whether ranks
-- only wait for named ranks, and which ranks rest in each node whose moves were made
pub record Findings : Type 0 where
  pub kept : List KeptNode
  pub ends : List ℕ
  pub companies : List Company
  pub leads : List Lead
  pub left : ℕ
  pub may_wait : Bool
  pub only_waits : Bool
  pub resting : List ℕ

abbrev pub findings : Exploration → Findings
findings found = record {
  kept = found.nodes.items;
  ends = found.ends.items;
  companies = found.companies.items;
  leads = found.leads.items;
  left = found.left;
  may_wait = found.may_wait;
  only_waits = found.only_waits;
  resting = found.resting.items;
}

-- the node of this number is one whose moves were made: all but the last ones
abbrev pub IsVisitedNode : List Node → ℕ → ℕ → Node → Type 0
IsVisitedNode nodes left i node = (i + left < length nodes) × (slice_get nodes i ≡ Some node)

-- the ranks that rest in the node of this number are noted
abbrev pub AreRestingAt : List ℕ → ℕ → Cluster → Type 0
AreRestingAt resting i cluster = (set : ℕ) × (slice_get resting i ≡ Some set) × AreResting set cluster

-- what is kept are nodes to each of which its turns led, they reach the start, those whose moves were made are closed over
-- them, with few posts where calls for what is there are made at once, and moves led between them; the ends are ends, and
-- each of those that is one is told; the companies are the most ranks that are stuck together in a node whose moves were
-- made, and each is told of those; and where no node is left the ends are all. Where standard sends might wait for their
-- receives, no ranks need buffers in a node whose moves were made, and it is noted which ranks rest there
pub record ExploredFrom (image : ImageParts) (order : List ℕ) (start : Node) (found : Findings) : Type 0 where
  pub nodes : List Node
  pub are : AreNodes image order found.kept nodes
  pub how : How
  pub start_is : Reaches how order nodes start
  pub begins : MayBegin how order start
  pub room : HasRoom how (hub_of start.cluster.journal)
  pub leads : AreLeads how order nodes found.leads
  pub follows : (i r : ℕ) (node : Node) → IsVisitedNode nodes found.left i node
      → IsClosedFrom how order found.leads i nodes node r
  pub closed : (i r : ℕ) (node : Node) → IsVisitedNode nodes found.left i node → IsClosedAt how order nodes node r
  pub few : (i : ℕ) (node : Node) → IsVisitedNode nodes found.left i node → HasRoom how (hub_of node.cluster.journal)
  pub fit : (i : ℕ) (node : Node) → IsVisitedNode nodes found.left i node → IsFitFor how node.cluster
  pub sound : AreEnds order nodes found.ends
  pub told : (i : ℕ) (node : Node) → IsVisitedNode nodes found.left i node → IsEnd (by_order order) node.cluster
      → (k : ℕ) × (slice_get found.ends k ≡ Some i)
  pub stuck : IsImage image → (k : ℕ) (company : Company) → slice_get found.companies k ≡ Some company
      → IsCompanyAt nodes company
  pub visited : (k : ℕ) (company : Company) → slice_get found.companies k ≡ Some company
      → company.node + found.left < length nodes
  pub judged : IsImage image → (i : ℕ) (node : Node) → IsVisitedNode nodes found.left i node
      → IsJudged found.companies i node.cluster
  pub all : found.left ≡ 0 → AreAllEnds order start nodes found.ends
  pub waits : found.may_wait ≡ true → MayWaitIn how
  pub named : found.only_waits ≡ true → OnlyWaitIn how
  pub unneeded : IsImage image → found.may_wait ≡ true → (i : ℕ) (node : Node) → IsVisitedNode nodes found.left i node
      → IsNoNeed node.cluster
  pub counted : length found.resting + found.left ≡ length found.kept
  pub rested : IsImage image → found.may_wait ≡ true → (i : ℕ) (node : Node) → IsVisitedNode nodes found.left i node
      → AreRestingAt found.resting i node.cluster

-- from the loaded cluster
abbrev pub Explored : ImageParts → List ℕ → Findings → Type 0
Explored image order found = ExploredFrom image order (first_node image) found

-- without calls that are made at once
abbrev pub ExploredPlainly : ImageParts → List ℕ → Findings → Type 0
ExploredPlainly image order found = (explored : Explored image order found) × (explored.how ≡ plainly)

-- whichever node it is at which the search begins, and to which its steps led from the loaded cluster
abbrev pub ExploresFrom : How → List ℕ → Standing → Findings → Type 0
ExploresFrom how order standing found =
    (image : ImageParts) (here : Node) → StandsAt image standing here
    → IsWay (by_order order) (first_node image) standing.steps.items here → MayBegin how order here
    → (explored : ExploredFrom image order here found) × (explored.how ≡ how)

-- what was told is still so, from whichever node the search began at
abbrev pub StillExplores : How → List ℕ → Findings → Findings → Type 0
StillExplores how order before after =
    (standing : Standing) → ExploresFrom how order standing before → ExploresFrom how order standing after

-- from where these turns lead
pub record ExploredBehind (image : ImageParts) (order : List ℕ) (turns : List Turn) (found : Findings) : Type 0 where
  pub steps : List Step
  pub start : Node
  pub ordered : IsOrderedWay image order turns steps start
  pub explored : ExploredFrom image order start found

-- turns that lead to whichever node is kept at this number
abbrev pub AreTurnsTo : List KeptNode → ℕ → List Turn → Type 0
AreTurnsTo kept node turns =
    (image : ImageParts) (order : List ℕ) (nodes : List Node) (here : Node) → AreNodes image order kept nodes
    → slice_get nodes node ≡ Some here
    → (steps : List Step) × IsOrderedWay image order turns steps here

-- ---- how far

abbrev pub AreEnough : Option ℕ → ℕ → Type 0
AreEnough None left = ⊥
AreEnough (Some least) left = least ≤ left

-- a node was reached from the one before by more turns than a rank was let take at once
abbrev pub IsLonger : ℕ → KeptNode → Type 0
IsLonger most kept = most < length kept.turns

abbrev pub HasLonger : ℕ → List KeptNode → Type 0
HasLonger most kept = (i : ℕ) × (node : KeptNode) × (slice_get kept i ≡ Some node) × IsLonger most node

-- no node is left, or the moves of as many as were allowed have been made, or enough are left, or some rank takes more
-- turns by itself than it was let take at once
abbrev pub IsBounded : ℕ → Option ℕ → ℕ → List KeptNode → ℕ → Type 0
IsBounded states enough most kept left =
    (left ≡ 0) ⊎ ((length kept ≡ states + left) ⊎ (AreEnough enough left ⊎ HasLonger most kept))

-- ---- on the way

-- what is kept reaches the start, and no move has led anywhere
pub record BeginsWell (how : How) (image : ImageParts) (order : List ℕ) (start : Node) (search : Search)
    : Type 0 where
  pub nodes : List Node
  pub are : AreNodes image order search.nodes.items nodes
  pub still : search.leads.items ≡ []
  pub start_is : Reaches how order nodes start

-- whichever node the standing is, to which its steps led from the loaded cluster
abbrev pub BeginsAt : How → List ℕ → Standing → Search → Type 0
BeginsAt how order standing search =
    (image : ImageParts) (here : Node) → StandsAt image standing here
    → IsWay (by_order order) (first_node image) standing.steps.items here
    → BeginsWell how image order here search

-- a node is noted behind the others if it is an end
abbrev pub Notes : List ℕ → Bool → ℕ → List ℕ → Type 0
Notes ends true node new = new ≡ ends ++ node ∷ []
Notes ends false node new = new ≡ ends
