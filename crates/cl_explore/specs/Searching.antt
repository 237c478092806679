-- What a search has done.
use Rattle.std.specs.Prelude.{ℕ, ◌≡◌, ◌<◌, ◌^◌, ◌↔◌, List, [], ◌∷◌, ◌++◌, length, option_map, slice_get, Some, true}
use Rattle.rv_image_types.specs.Image.{IsImage}
use Rattle.rv_image_types.specs.declared.images.ImageParts.{ImageParts}
use Rattle.cl_deeds.specs.Orders.{in_slot}
use Rattle.cl_deadlock.specs.Why.{IsVerdictOf}
use Rattle.cl_machine.specs.declared.steps.Step.{Step}
use Rattle.cl_order_laws.specs.Closed.{IsEnd, Node}
use Rattle.cl_order_laws.specs.Laws.{IsReached}
use Rattle.cl_moves.specs.Standing.{IsWay, StandsAt, by_order}
use Rattle.cl_moves.specs.declared.standing.Standing.{Standing}
use Rattle.cl_rests.specs.Sets.{AreResting}
use Rattle.cl_rests.specs.Telling.{HaveOneHart, IsNeedVerdict}
use Rattle.cl_explore.specs.How.{AreAlikeFor, How, IsFitFor, waits_in}
use Rattle.cl_explore.specs.Kept.{AreSamePlaces, IsAlikeKept, IsBefore, IsLiveAt}
use Rattle.cl_explore.specs.Covering.{AreLeads, AreNodes, Grows, IsAlikeAt, IsClosedFrom, IsReachedTurn, LeadsGrow, Reaches}
use Rattle.cl_explore.specs.declared.kept.KeptNode.{KeptNode}
use Rattle.cl_explore.specs.declared.leads.Lead.{Lead}
use Rattle.cl_explore.specs.declared.moving.Visit.{Visit}
use Rattle.cl_explore.specs.declared.search.Search.{Search}

-- more is kept than before, and of these nodes something holds
pub record Keeps (image : ImageParts) (order : List ℕ) (nodes : List Node) (new : List KeptNode)
    (P : List Node → Type 0) : Type 0 where
  pub more : List Node
  pub grows : Grows nodes more
  pub are : AreNodes image order new more
  pub holds : P more

-- the node of this number is alike a standing, at the same places
abbrev pub IsFoundIn : How → List ℕ → List KeptNode → Standing → ℕ → Type 0
IsFoundIn how order kept standing i =
    (node : KeptNode) × (slice_get kept i ≡ Some node) × IsAlikeKept how order standing node
    × AreSamePlaces order standing node.had.items

-- one node more is kept, under this number: where a standing came from the node of the number before
abbrev pub Adds : List ℕ → List KeptNode → ℕ → Standing → List KeptNode → ℕ → Type 0
Adds order old parent standing new number =
    ((kept : KeptNode) × (new ≡ old ++ kept ∷ []))
    × ((image : ImageParts) (nodes : List Node) (before here : Node) → AreNodes image order old nodes
    → StandsAt image standing here → IsBefore image nodes parent (length nodes) before
    → IsWay (by_order order) before standing.steps.items here
    → Keeps image order nodes new (λ more. slice_get more number ≡ Some here))

-- where a standing came from the node of this number is alike the node of another number, or is that node
abbrev pub Arrives : How → List ℕ → List KeptNode → ℕ → Standing → List KeptNode → ℕ → Type 0
Arrives how order old parent standing new number =
    (image : ImageParts) (nodes : List Node) (before here : Node) → AreNodes image order old nodes
    → StandsAt image standing here → IsBefore image nodes parent (length nodes) before
    → IsWay (by_order order) before standing.steps.items here
    → Keeps image order nodes new (λ more. IsAlikeAt how order more number here)

-- what a search found are these nodes, and its moves led between them
pub record AreFound (how : How) (image : ImageParts) (order : List ℕ) (search : Search) (nodes : List Node)
    : Type 0 where
  pub are : AreNodes image order search.nodes.items nodes
  pub leads : AreLeads how order nodes search.leads.items

-- more was found than before, and of these nodes something holds
pub record FindsMore (how : How) (image : ImageParts) (order : List ℕ) (old : Search) (nodes : List Node) (new : Search)
    (P : List Node → Type 0) : Type 0 where
  pub more : List Node
  pub grows : Grows nodes more
  pub found : AreFound how image order new more
  pub leads : LeadsGrow old.leads.items new.leads.items
  pub holds : P more

-- of a node of the list something holds then
abbrev pub KeepsOf : How → List ℕ → Search → ℕ → Search → (ImageParts → List Node → Node → Type 0) → Type 0
KeepsOf how order old n new P =
    (image : ImageParts) (nodes : List Node) (node : Node) → AreFound how image order old nodes
    → slice_get nodes n ≡ Some node
    → FindsMore how image order old nodes new (λ more. P image more node)

-- the turn is one of the hart whose turn it is in its rank, at a stamp that a step may have
abbrev pub IsPlanned : List ℕ → Node → Step → Type 0
IsPlanned order node e = (e.hart ≡ in_slot order (node.had e.rank)) × (e.stamp < 2 ^ 62)

-- of a node of the list at which a standing is something holds then, and the standing is there again
abbrev pub KeepsAt : How → List ℕ → Search → ℕ → Standing → Search → Standing → (Node → Type 0)
    → (List Node → Node → Type 0) → Type 0
KeepsAt how order old n live new after Needs P =
    (image : ImageParts) (nodes : List Node) (node : Node) → AreFound how image order old nodes
    → slice_get nodes n ≡ Some node → IsLiveAt image live node → Needs node
    → FindsMore how image order old nodes new (λ more. P more node) × IsLiveAt image after node

-- turns that are taken at once led from whichever node the old standing was to one that the new standing is, and each
-- node that is alike the one reaches the other
abbrev pub GoesOn : How → List ℕ → Standing → Standing → Type 0
GoesOn how order old new =
    (image : ImageParts) (start here : Node) → StandsAt image old here → IsWay (by_order order) start old.steps.items here
    → IsReached start.cluster
    → (there : Node) × StandsAt image new there × IsWay (by_order order) start new.steps.items there
    × ((node : Node) → AreAlikeFor how order there node → Reaches how order (node ∷ []) here)

-- where it is one, wherever it leads is reached then by a node to which a move led
abbrev pub Goes : How → List ℕ → Search → ℕ → Standing → Step → Search → Standing → Type 0
Goes how order old n live e new after =
    KeepsAt how order old n live new after (λ node. IsPlanned order node e)
    (λ more node. IsReachedTurn how order new.leads.items n more node e)

abbrev pub ArePlanned : List ℕ → Node → List Step → Type 0
ArePlanned order node turns = (i : ℕ) (e : Step) → slice_get turns i ≡ Some e → IsPlanned order node e

abbrev pub AreReached : How → List ℕ → List Lead → ℕ → List Step → List Node → Node → Type 0
AreReached how order leads n turns nodes node =
    (i : ℕ) (e : Step) → slice_get turns i ≡ Some e → IsReachedTurn how order leads n nodes node e

-- and so of each of these turns
abbrev pub GoesEach : How → List ℕ → Search → ℕ → Standing → List Step → Search → Standing → Type 0
GoesEach how order old n live turns new after =
    KeepsAt how order old n live new after (λ node. ArePlanned order node turns)
    (λ more node. AreReached how order new.leads.items n turns more node)

-- the first so many ranks of a node are closed
abbrev pub AreClosedBelow : How → List ℕ → List Lead → ℕ → ℕ → List Node → Node → Type 0
AreClosedBelow how order leads n count nodes node = (r : ℕ) → r < count → IsClosedFrom how order leads n nodes node r

-- each rank is, and it is told whether nobody goes on, and which ranks are stuck; and all ranks may be let go there. Where
-- standard sends may wait for their receives it is told which ranks need buffers, and which rest
pub record IsVisited (how : How) (order : List ℕ) (leads : List Lead) (n : ℕ) (visit : Visit) (image : ImageParts)
    (nodes : List Node) (node : Node) : Type 0 where
  pub closed : (r : ℕ) → IsClosedFrom how order leads n nodes node r
  pub end : (visit.end ≡ true) ↔ IsEnd (by_order order) node.cluster
  pub stuck : IsImage image → IsVerdictOf node.cluster (option_map (λ ranks. ranks.items) visit.stuck)
  pub fit : IsFitFor how node.cluster
  pub need : IsImage image → HaveOneHart node.cluster → waits_in how ≡ true
      → IsNeedVerdict node.cluster (option_map (λ ranks. ranks.items) visit.need)
  pub resting : IsImage image → waits_in how ≡ true → AreResting visit.resting node.cluster

-- where a standing is the node, the rank is closed
abbrev pub ClosesRank : How → List ℕ → Search → ℕ → Standing → ℕ → Search → Standing → Type 0
ClosesRank how order old n live rank new after =
    KeepsAt how order old n live new after (λ node. Unit {0})
    (λ more node. IsClosedFrom how order new.leads.items n more node rank)
