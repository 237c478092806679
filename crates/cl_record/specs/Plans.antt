-- Plans: which harts take a rank's turns, and how many it has; and the order in which ranks take theirs.
use Rattle.std.specs.Prelude.{ℕ, ◌≡◌, ◌<◌, ◌≤◌, ◌^◌, List, length, All, Contains}
use Rattle.rv_image_types.specs.declared.images.ImageParts.{ImageParts}
use Rattle.cl_deeds.specs.Orders.{IsOrder}
use Rattle.cl_record.specs.declared.plans.Plan.{Plan}

-- the harts of a rank that has so many, and 1 to 2^24 turns
pub record IsPlan (harts : ℕ) (plan : Plan) : Type 0 where
  pub is_order : IsOrder harts plan.order.items
  pub least_budget : 1 ≤ plan.budget
  pub most_budget : plan.budget ≤ 2 ^ 24

-- the order of the ranks misses none of them
abbrev pub MissesNone : ℕ → List ℕ → Type 0
MissesNone ranks order = (rank : ℕ) → rank < ranks → Contains order rank

-- one plan for each rank of an image
pub record HasPlans (image : ImageParts) (plans : List Plan) : Type 0 where
  pub one_each : length plans ≡ image.ranks
  pub are_plans : All (IsPlan image.harts) plans

-- and an order of all ranks, in which they take turns on one thread
pub record ArePlans (image : ImageParts) (plans : List Plan) (order : List ℕ) : Type 0 where
  pub planned : HasPlans image plans
  pub is_order : IsOrder image.ranks order
  pub misses_none : MissesNone image.ranks order
