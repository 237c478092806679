-- A run on one thread that was ended early.
use Rattle.std.specs.Prelude.{ℕ, ◌≡◌, ◌≤◌, List, length, slice_get, Some}
use Rattle.rv_image_types.specs.declared.images.ImageParts.{ImageParts}
use Rattle.cl_record.specs.declared.plans.Plan.{Plan}
use Rattle.cl_record.specs.declared.records.Record.{Record}
use Rattle.cl_run.specs.Runs.{IsOneRun}

-- the same order of harts, for as many turns or fewer
pub record IsCut (plan cut : Plan) : Type 0 where
  pub order_stays : cut.order ≡ plan.order
  pub no_more : cut.budget ≤ plan.budget

-- the same of each rank's plan
pub record AreCuts (plans cuts : List Plan) : Type 0 where
  pub one_each : length cuts ≡ length plans
  pub each : (r : ℕ) (plan cut : Plan) → slice_get plans r ≡ Some plan → slice_get cuts r ≡ Some cut → IsCut plan cut

-- a run that may have been ended before each rank stopped by its plan: it is a run by plans that were cut. So of a rank
-- that was told to stop the record says Budget, with fewer turns than its plan gives
pub record IsEndedRun (image : ImageParts) (plans : List Plan) (order : List ℕ) (left : Record) : Type 0 where
  pub cuts : List Plan
  pub are_cuts : AreCuts plans cuts
  pub run : IsOneRun image cuts order left
