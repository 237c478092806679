-- What runs leave.
use Rattle.std.specs.Prelude.{ℕ, ◌≡◌, ◌<◌, ◌+◌, List, [], ◌∷◌, length, map, slice_get, slice_index, Contains, Some, ⊤}
use Rattle.rv_image_types.specs.declared.images.ImageParts.{ImageParts}
use Rattle.cl_trace.specs.Traces.{TraceView}
use Rattle.cl_trace.specs.declared.events.Event.{Event}
use Rattle.cl_state.specs.declared.state.RankState.{RankState}
use Rattle.cl_rank.specs.declared.stops.Stop.TheVariants.{Budget}
use Rattle.cl_machine.specs.Cluster.{Cluster, IsRun, loaded_cluster}
use Rattle.cl_machine.specs.declared.steps.Step.{Step}
use Rattle.cl_record.specs.Plans.{ArePlans}
use Rattle.cl_record.specs.Records.{FollowsPlan, IsEndOf}
use Rattle.cl_record.specs.declared.plans.Plan.{Plan}
use Rattle.cl_record.specs.declared.records.Record.{Record}

-- a plan, a trace, a state and a stop for each rank
pub record OfEachRank (image : ImageParts) (plans : List Plan) (order : List ℕ) (left : Record) : Type 0 where
  pub are_plans : ArePlans image plans order
  pub plans_count : length plans ≡ image.ranks
  pub traces_count : length left.traces.items ≡ image.ranks
  pub ranks_count : length left.ranks.items ≡ image.ranks
  pub stops_count : length left.stops.items ≡ image.ranks

-- turn n is of the plan's hart n, and turn n behind one whole round again
abbrev pub RoundAndRound : Type 0
RoundAndRound =
    (plan : Plan) (events : List Event) (n : ℕ) (event : Event) → FollowsPlan plan events → n < length plan.order.items
    → ((slice_get events n ≡ Some event → event.hart ≡ slice_index plan.order.items n)
    × (slice_get events (n + length plan.order.items) ≡ Some event → event.hart ≡ slice_index plan.order.items n))

-- the first turn is this rank's, where it takes any
abbrev pub LeadsOff : ℕ → List ℕ → Type 0
LeadsOff rank [] = ⊤
LeadsOff rank (taker ∷ takers) = Contains (taker ∷ takers) rank → taker ≡ rank

-- the run that ends in the record is led off by this rank
pub record IsLedOffBy (rank : ℕ) (image : ImageParts) (left : Record) : Type 0 where
  pub steps : List Step
  pub final : Cluster
  pub run : IsRun (loaded_cluster image) steps final
  pub end : IsEndOf image left final
  pub leads : LeadsOff rank (map (λ (step : Step). step.rank) steps)

-- a rank that stops for its budget took all its turns, whichever it is
abbrev pub AllBudgetsAreUsed : List Plan → Record → Type 0
AllBudgetsAreUsed plans left =
    (rank : ℕ) (plan : Plan) (trace : TraceView) (state : RankState) → slice_get plans rank ≡ Some plan
    → slice_get left.traces.items rank ≡ Some trace → slice_get left.ranks.items rank ≡ Some state
    → slice_get left.stops.items rank ≡ Some Budget
    → length trace.events ≡ plan.budget
