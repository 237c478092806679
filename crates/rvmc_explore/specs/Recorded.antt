-- A record of an outcome.
use Rattle.std.specs.Prelude.{ℕ, zero, suc, Bool, List, Option, Some, None, slice_get}
use Rattle.rv_image_types.specs.declared.images.ImageParts.{ImageParts}
use Rattle.cl_machine.specs.declared.steps.Step.{Step}
use Rattle.cl_machine.specs.Cluster.{IsRun, loaded_cluster}
use Rattle.cl_machine.specs.Merge.{IsMerge}
use Rattle.cl_machine.specs.Order.{of_rank}
use Rattle.cl_order_laws.specs.Closed.{Node}
use Rattle.cl_moves.specs.Standing.{IsWay, by_order, first_node}
use Rattle.rvmc_explore.specs.Outcomes.{IsListOf, IsTextAt}
use Rattle.rvmc_explore.specs.declared.outcomes.Outcome.{Outcome}

-- the outcome of this number, from 1
abbrev pub numbered : List Outcome → ℕ → Option Outcome
numbered told zero = None
numbered told (suc before) = slice_get told before

-- of a search that left so many states: the outcome's turns lead by the order to a node of which its text tells, and the steps are
-- a run to there, these turns as a record has them, by their stamps
pub record LeadsTo (image : ImageParts) (order : List ℕ) (left : ℕ) (outcome : Outcome) (steps : List Step) : Type 0 where
  pub node : Node
  pub way : IsWay (by_order order) (first_node image) outcome.way node
  pub told_at : IsTextAt image order left node outcome.body.items
  pub sorted : IsMerge (λ r. of_rank (λ (e : Step). e.rank) r outcome.way) steps
  pub run : IsRun (loaded_cluster image) steps node.cluster

-- steps only where there is such an outcome
abbrev pub Leads : ImageParts → List ℕ → ℕ → Option Outcome → Option (List Step) → Type 0
Leads image order left None None = Unit {0}
Leads image order left (Some outcome) (Some steps) = LeadsTo image order left outcome steps
Leads image order left outcome steps = ⊥

-- the steps are a run to the outcome of this number in the list of what is told, and there are none where that has fewer
pub record RecordsEnd (image : ImageParts) (order : List ℕ) (buffered : Bool) (states turns number : ℕ)
    (steps : Option (List Step)) : Type 0 where
  pub told : List Outcome
  pub listed : IsListOf image order buffered states turns told
  pub leads : Leads image order (listed.found).left (numbered told number) steps
