-- What it means that others run on beside ranks that are stuck.
use Rattle.std.specs.Prelude.{ℕ, ◌≡◌, Bool, true, List, slice_get, Some}
use Rattle.rv_image_types.specs.declared.images.ImageParts.{ImageParts}
use Rattle.cl_deadlock_laws.specs.Stuck.{AreAsTheyWere}
use Rattle.cl_explore.specs.Below.{IsOrder}
use Rattle.cl_explore.specs.Ends.{Findings}
use Rattle.cl_machine.specs.Cluster.{Cluster, IsRun}
use Rattle.cl_machine.specs.declared.steps.Step.{Step}
use Rattle.cl_moves.specs.Standing.{by_order}
use Rattle.cl_order_laws.specs.Closed.{FollowPlans, IsEnd}
use Rattle.rvmc_explore.specs.Outcomes.{IsStuckOutcome}
use Rattle.rvmc_explore.specs.Telling.{Tells}
use Rattle.rvmc_explore.specs.declared.outcomes.Outcome.{Outcome}

pub record BesideLaw : Type 0 where
  -- with whatever bounds, the node at which ranks are stuck is no end
  pub no_end : (order : List ℕ) (image : ImageParts) (found : Findings) (outcome : Outcome)
      → (stuck : IsStuckOutcome order image found outcome) → ¬ IsEnd (by_order order) (stuck.node).cluster
  -- where no state is left: wherever a run by the order leads from there, those ranks are as they were, but for their clocks,
  -- and somebody can go on
  pub forever : (order : List ℕ) (image : ImageParts) (found : Findings) (outcome : Outcome)
      → (stuck : IsStuckOutcome order image found outcome) → found.left ≡ 0
      → (steps : List Step) (end : Cluster) → IsRun (stuck.node).cluster steps end
      → FollowPlans (by_order order) (stuck.node).had steps
      → AreAsTheyWere (stuck.company).ranks.items (stuck.node).cluster end × ¬ IsEnd (by_order order) end
  -- so a search that left no state says that some runs go on for ever, if it tells of such ranks
  pub unending : (image : ImageParts) (order : List ℕ) (buffered : Bool) (states turns : ℕ) (text : List ℕ) (status : ℕ)
      → IsOrder image.harts order → (tells : Tells image order buffered states turns text status)
      → (((tells.listed).found).left ≡ 0)
      → (k : ℕ) (outcome : Outcome) → slice_get tells.told k ≡ Some outcome
      → IsStuckOutcome order image (tells.listed).found outcome
      → tells.unending ≡ true
