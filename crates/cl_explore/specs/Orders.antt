-- Turns of an order, taken one after another.
use Rattle.std.specs.Prelude.{ℕ, ◌≡◌, ◌++◌, ◌∷◌, [], List, map, take, Bool, true, false, Option, Some, None, slice_get}
use Rattle.rv_image_types.specs.declared.images.ImageParts.{ImageParts}
use Rattle.cl_machine.specs.Cluster.{Cluster, IsStep}
use Rattle.cl_machine.specs.declared.steps.Step.{Step}
use Rattle.cl_turns.specs.declared.Turn.{Turn}
use Rattle.cl_order_laws.specs.Closed.{Node, one_more}
use Rattle.cl_order_laws.specs.Orders.{is_miss, turn_of}
use Rattle.cl_moves.specs.Standing.{IsWay, StandsAt, by_order, first_node, node_of}
use Rattle.cl_moves.specs.declared.standing.Standing.{Standing}
use Rattle.cl_explore.specs.declared.orders.OrderFault.{OrderFault}
use Rattle.cl_explore.specs.declared.orders.OrderFault.TheVariants.{Move, NoTurn}

-- whose turn it is, and whether it looks at a box and doesn't see what may be in it
abbrev pub named : Turn → ℕ × Bool
named turn = (turn.rank, turn.misses)

-- one of the turns that misses, or that doesn't; none only where there is none
abbrev pub IsChosen : List Step → Bool → Option Step → Type 0
IsChosen turns misses None = (i : ℕ) (e : Step) → slice_get turns i ≡ Some e → is_miss e.kind ≡ misses → ⊥
IsChosen turns misses (Some e) = ((i : ℕ) × (slice_get turns i ≡ Some e)) × (is_miss e.kind ≡ misses)

-- there is no such turn of the hart that is next in its rank
abbrev pub HasNoTurnAs : List ℕ → Node → Turn → Type 0
HasNoTurnAs order here turn =
    (e : Step) (next : Cluster) → turn_of e ≡ named turn → e.hart ≡ by_order order e.rank (here.had e.rank)
    → IsStep here.cluster e next → ⊥

-- whichever node the old standing was, one such turn leads to one that the new standing is, and stands behind the others
pub record TookTurn (image : ImageParts) (order : List ℕ) (old : Standing) (turn : Turn) (new : Standing) (start here : Node)
    : Type 0 where
  pub step : Step
  pub next : Cluster
  pub is : turn_of step ≡ named turn
  pub noted : new.steps.items ≡ old.steps.items ++ step ∷ []
  pub taken : IsStep here.cluster step next
  pub stands : StandsAt image new (node_of next (one_more here.had step.rank))
  pub way : IsWay (by_order order) start new.steps.items (node_of next (one_more here.had step.rank))

-- it was taken, or there is none
abbrev pub TakesTurn : List ℕ → Standing → Turn → Standing → Bool → Type 0
TakesTurn order old turn new true =
    (image : ImageParts) (start here : Node) → StandsAt image old here
    → IsWay (by_order order) start old.steps.items here
    → TookTurn image order old turn new start here
TakesTurn order old turn new false =
    (image : ImageParts) (here : Node) → StandsAt image old here → HasNoTurnAs order here turn

-- turns of this order lead by these steps from the loaded cluster to the node
pub record IsOrderedWay (image : ImageParts) (order : List ℕ) (turns : List Turn) (steps : List Step) (here : Node)
    : Type 0 where
  pub way : IsWay (by_order order) (first_node image) steps here
  pub turns_are : map turn_of steps ≡ map named turns

-- the turns lead to the standing
pub record IsLedBy (image : ImageParts) (order : List ℕ) (turns : List Turn) (standing : Standing) : Type 0 where
  pub here : Node
  pub stands : StandsAt image standing here
  pub ordered : IsOrderedWay image order turns standing.steps.items here

-- the turns before lead to where there is none as the one of this number
pub record IsTurnless (image : ImageParts) (order : List ℕ) (turns : List Turn) (place : ℕ) : Type 0 where
  pub turn : Turn
  pub there : slice_get turns place ≡ Some turn
  pub steps : List Step
  pub here : Node
  pub ordered : IsOrderedWay image order (take place turns) steps here
  pub none : HasNoTurnAs order here turn

abbrev pub OrderFaultHolds : ImageParts → List ℕ → List Turn → OrderFault → Type 0
OrderFaultHolds image order turns (Move fault) = Unit {0}
OrderFaultHolds image order turns (NoTurn place) = IsTurnless image order turns place
