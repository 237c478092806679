-- Lists of nodes that grow, and what they cover.
use Rattle.std.specs.Prelude.{ℕ, ◌≡◌, ◌⊎◌, List, [], ◌∷◌, length, slice_get, Some}
use Rattle.rv_image_types.specs.declared.images.ImageParts.{ImageParts}
use Rattle.cl_deeds.specs.Orders.{in_slot}
use Rattle.cl_state.specs.Rank.{Rank}
use Rattle.cl_machine.specs.Cluster.{Cluster}
use Rattle.cl_machine.specs.declared.steps.Step.{Step}
use Rattle.cl_order_laws.specs.Alike.{Leads}
use Rattle.cl_order_laws.specs.Closed.{IsCovered, IsDone, Node, one_more}
use Rattle.cl_order_laws.specs.Sure.{IsSettledBy}
use Rattle.cl_contests.specs.Below.{IsSettled}
use Rattle.cl_contest_laws.specs.Lists.{IsOneOf}
use Rattle.cl_moves.specs.Standing.{IsWay, by_order, node_of}
use Rattle.cl_moves.specs.Posts.{most_posts}
use Rattle.cl_explore.specs.How.{AreAlikeFor, HasRoom, How, at_once, by_contest, plainly}
use Rattle.cl_explore.specs.Kept.{IsLed, KeptStandsAt}
use Rattle.cl_explore.specs.declared.kept.KeptNode.{KeptNode}
use Rattle.cl_explore.specs.declared.leads.Lead.{Lead}

-- each node stands where it stood
abbrev pub Grows : List Node → List Node → Type 0
Grows nodes more = (i : ℕ) (node : Node) → slice_get nodes i ≡ Some node → slice_get more i ≡ Some node

-- what is kept are these nodes, one by one, and the turns of each led there from the one before it
pub record AreNodes (image : ImageParts) (order : List ℕ) (kept : List KeptNode) (nodes : List Node) : Type 0 where
  pub many : length nodes ≡ length kept
  pub each : (i : ℕ) (k : KeptNode) → slice_get kept i ≡ Some k
      → (node : Node) × (slice_get nodes i ≡ Some node) × KeptStandsAt image k node × IsLed image order nodes i k node

-- the node of this number is alike this one
abbrev pub IsAlikeAt : How → List ℕ → List Node → ℕ → Node → Type 0
IsAlikeAt how order nodes i here = (node : Node) × (slice_get nodes i ≡ Some node) × AreAlikeFor how order here node

-- ---- what is reached from a node

-- the nodes cover it; or, where calls for what is there are made at once, or turns that nobody contests, they settle it
abbrev pub Reaches : How → List ℕ → List Node → Node → Type 0
Reaches plainly order nodes here = IsCovered (by_order order) nodes here
Reaches at_once order nodes here = IsSettledBy (by_order order) most_posts nodes here
Reaches (by_contest contest) order nodes here = IsSettled contest (IsOneOf nodes) here.cluster

-- ---- where moves led

-- a move led from the node of the one number to that of the other
abbrev pub HasLead : List Lead → ℕ → ℕ → Type 0
HasLead leads i j = (k : ℕ) × (lead : Lead) × (slice_get leads k ≡ Some lead) × (lead.from ≡ i) × (lead.to ≡ j)

-- and it was a move of this rank
abbrev pub HasLeadBy : List Lead → ℕ → ℕ → ℕ → Type 0
HasLeadBy leads r i j =
    (k : ℕ) × (lead : Lead) × (slice_get leads k ≡ Some lead) × (lead.rank ≡ r) × (lead.from ≡ i) × (lead.to ≡ j)

-- turns by the order lead from the one node to one that is alike the other; and where the next turn of this rank by the order
-- leads from the one, the other reaches
pub record AreJoined (how : How) (order : List ℕ) (r : ℕ) (from to : Node) : Type 0 where
  pub steps : List Step
  pub there : Node
  pub way : IsWay (by_order order) from steps there
  pub alike : AreAlikeFor how order there to
  pub first : Step
  pub new : Cluster
  pub own : first.rank ≡ r
  pub planned : first.hart ≡ in_slot order (from.had r)
  pub leads : Leads from.cluster first new
  pub reaches : Reaches how order (to ∷ []) (node_of new (one_more from.had r))

-- and so from the first node of each lead to its second, by its rank
abbrev pub AreLeads : How → List ℕ → List Node → List Lead → Type 0
AreLeads how order nodes leads =
    (k : ℕ) (lead : Lead) → slice_get leads k ≡ Some lead
    → (from : Node) × (to : Node) × (slice_get nodes lead.from ≡ Some from) × (slice_get nodes lead.to ≡ Some to)
    × AreJoined how order lead.rank from to

-- each lead stands where it stood
abbrev pub LeadsGrow : List Lead → List Lead → Type 0
LeadsGrow leads more = (k : ℕ) (lead : Lead) → slice_get leads k ≡ Some lead → slice_get more k ≡ Some lead

-- ---- nodes that are closed

-- few posts were made in what is kept at this number, if that matters
abbrev pub HasRoomAt : How → List KeptNode → ℕ → Type 0
HasRoomAt how kept i = (k : KeptNode) → slice_get kept i ≡ Some k → HasRoom how k.whole

-- one of the nodes to which moves of this rank led from the node of this number reaches it
pub record IsReachedFrom (how : How) (order : List ℕ) (leads : List Lead) (r i : ℕ) (nodes : List Node) (here : Node)
    : Type 0 where
  pub number : ℕ
  pub next : Node
  pub led : HasLeadBy leads r i number
  pub there : slice_get nodes number ≡ Some next
  pub reaches : Reaches how order (next ∷ []) here

-- wherever this turn of the node of this number leads is reached so
abbrev pub IsReachedTurn : How → List ℕ → List Lead → ℕ → List Node → Node → Step → Type 0
IsReachedTurn how order leads i nodes node e =
    (new : Cluster) → Leads node.cluster e new
    → IsReachedFrom how order leads e.rank i nodes (node_of new (one_more node.had e.rank))

-- all harts of the rank are stopped, or wherever its next turn leads is reached so
abbrev pub IsClosedFrom : How → List ℕ → List Lead → ℕ → List Node → Node → ℕ → Type 0
IsClosedFrom how order leads i nodes node r =
    (rank : Rank) → slice_get node.cluster.ranks r ≡ Some rank
    → IsDone (in_slot order) rank
    ⊎ ((e : Step) (new : Cluster) → e.rank ≡ r → e.hart ≡ in_slot order (node.had r) → Leads node.cluster e new
    → IsReachedFrom how order leads r i nodes (node_of new (one_more node.had r)))

-- all harts of the rank are stopped, or wherever its next turn leads is reached
abbrev pub IsClosedAt : How → List ℕ → List Node → Node → ℕ → Type 0
IsClosedAt how order nodes node r =
    (rank : Rank) → slice_get node.cluster.ranks r ≡ Some rank
    → IsDone (in_slot order) rank
    ⊎ ((e : Step) (new : Cluster) → e.rank ≡ r → e.hart ≡ in_slot order (node.had r) → Leads node.cluster e new
    → Reaches how order nodes (node_of new (one_more node.had r)))
