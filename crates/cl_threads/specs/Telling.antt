-- When a rank is told to stop, and when none was.
use Rattle.std.specs.Prelude.{ℕ, ◌≡◌, ◌<◌, ◌≤◌, List, length, slice_get, Some}
use Rattle.cl_trace.specs.Traces.{TraceView}
use Rattle.cl_deeds.specs.Turns.{AllStopped}
use Rattle.cl_rank.specs.declared.stops.Stop.{Stop}
use Rattle.cl_record.specs.Seats.{station}
use Rattle.cl_record.specs.declared.plans.Plan.{Plan}
use Rattle.cl_record.specs.declared.records.Record.{Record}
use Rattle.cl_record.specs.declared.seats.Seat.{Seat}

-- whoever says Budget used up the turns of its plan: nobody was told to stop
abbrev pub IsNoneTold : List Plan → Record → Type 0
IsNoneTold plans left =
    (r : ℕ) (plan : Plan) (stop : Stop) (trace : TraceView) → slice_get plans r ≡ Some plan
    → slice_get left.stops.items r ≡ Some stop → slice_get left.traces.items r ≡ Some trace → stop ≡ Stop.Budget
    → plan.budget ≤ length trace.events

-- a seat that is told to stop, as it was: it took turns and has some left, and not all harts are stopped
pub record IsToldHere (old new : Seat) : Type 0 where
  pub plan_stays : new.plan.now ≡ old.plan.now
  pub rank_stays : new.rank ≡ old.rank
  pub stops : new.stop ≡ Some Stop.Budget
  pub some : 1 ≤ length (station old).events
  pub fewer : length (station old).events < old.plan.now.budget
  pub runs : ¬ (AllStopped (station old).rank)
