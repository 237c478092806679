-- The plans and the order of the ranks that a command line stands for.
use Rattle.std.specs.Prelude.{◌≡◌, ℕ, List, length, Option, Some, None, All}
use Rattle.cl_record.specs.declared.plans.Plan.{Plan}
use Rattle.cl_state.specs.Rank.{below}
use Rattle.rv_image_types.specs.declared.images.ImageParts.{ImageParts}

-- what is listed, or without a list all of so many, in order
abbrev pub listed : Option (List ℕ) → ℕ → List ℕ
listed (Some numbers) count = numbers
listed None count = below count

-- a plan of these harts, round and round, for so many turns at most
pub record IsPlanOf (harts : List ℕ) (budget : ℕ) (plan : Plan) : Type 0 where
  pub harts_are : plan.order.items ≡ harts
  pub budget_is : plan.budget ≡ budget

-- one such plan for each rank
pub record ArePlansOf (ranks : ℕ) (harts : List ℕ) (budget : ℕ) (plans : List Plan) : Type 0 where
  pub one_each : length plans ≡ ranks
  pub same : All (IsPlanOf harts budget) plans

-- the same plan for each rank, and this holds of them. What isn't listed is all, in order
abbrev pub ByPlans : ImageParts → ℕ → Option (List ℕ) → (List Plan → Type 0) → Type 0
ByPlans image budget harts Holds =
    (plans : List Plan) × ArePlansOf image.ranks (listed harts image.harts) budget plans × Holds plans
