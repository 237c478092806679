-- Ranks that are told to stop before their plans end.
use Rattle.std.specs.Prelude.{ℕ, ◌≡◌, ◌<◌, ◌≤◌, ◌⊎◌, List, length, slice_get, Some}
use Rattle.rv_image_types.specs.declared.images.ImageParts.{ImageParts}
use Rattle.cl_trace.specs.Traces.{TraceView}
use Rattle.cl_rank.specs.declared.stops.Stop.{Stop}
use Rattle.cl_record.specs.declared.plans.Plan.{Plan}
use Rattle.cl_record.specs.declared.records.Record.{Record}
use Rattle.cl_threads.specs.Runs.{IsThreadRun}
use Rattle.cl_threads.specs.declared.until.Until.{Until}

-- the plan of a rank that was told to stop: the same harts, for as many turns as it took, which are fewer than it had
pub record IsCutPlan (plan cut : Plan) (stop : Stop) : Type 0 where
  pub order_stays : cut.order ≡ plan.order
  pub some : 1 ≤ cut.budget
  pub fewer : cut.budget < plan.budget
  pub told : stop ≡ Stop.Budget

-- the plan by which a rank went that stopped so: its own, or, where ranks are told to stop, also a cut one
abbrev pub IsBy : Until → Plan → Plan → Stop → Type 0
IsBy Until.Planned plan by stop = by ≡ plan
IsBy Until.Told plan by stop = (by ≡ plan) ⊎ IsCutPlan plan by stop

-- some rank was told to stop: it says Budget, and took fewer turns than its plan gives
abbrev pub IsSomeTold : List Plan → Record → Type 0
IsSomeTold plans left =
    (r : ℕ) × (plan : Plan) × (trace : TraceView) × (slice_get plans r ≡ Some plan)
    × (slice_get left.stops.items r ≡ Some Stop.Budget) × (slice_get left.traces.items r ≡ Some trace)
    × (length trace.events < plan.budget)

-- those of all ranks
pub record AreBy (until : Until) (plans cuts : List Plan) (stops : List Stop) : Type 0 where
  pub one_each : length cuts ≡ length plans
  pub each : (r : ℕ) (plan cut : Plan) → slice_get plans r ≡ Some plan → slice_get cuts r ≡ Some cut
      → (stop : Stop) × (slice_get stops r ≡ Some stop) × IsBy until plan cut stop

-- what ranks leave that went so: a run by these plans
pub record IsRunUntil (until : Until) (image : ImageParts) (plans : List Plan) (left : Record) : Type 0 where
  pub cuts : List Plan
  pub are_by : AreBy until plans cuts left.stops.items
  pub run : IsThreadRun image cuts left

-- what ranks leave that may have been told to stop
abbrev pub IsEndedThreadRun : ImageParts → List Plan → Record → Type 0
IsEndedThreadRun image plans left = IsRunUntil Until.Told image plans left
