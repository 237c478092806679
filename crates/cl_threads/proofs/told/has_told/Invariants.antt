use Rattle.std.proofs.Common.{◌≡◌, ◌<◌, ◌≤◌, ℕ, Some, length, slice_get}
use Rattle.cl_rank.specs.declared.stops.Stop.{Stop}
use Rattle.cl_rank.specs.declared.stops.Stop.TheVariants.{Budget}
use Rattle.cl_record.specs.declared.plans.Plan.{Plan}
use Rattle.cl_trace.specs.Traces.{TraceView}
use Rattle.cl_threads.proofs.told.has_told.Given as goal

-- nobody was told to stop of the ranks before this one
abbrev pub invariant-loop-rank : goal.invariant-loop-rank
invariant-loop-rank l =
    (r : ℕ) (plan : Plan) (stop : Stop) (trace : TraceView) → r < l.rank → slice_get l.plans r ≡ Some plan
    → slice_get l.left.stops.items r ≡ Some stop → slice_get l.left.traces.items r ≡ Some trace → stop ≡ Budget
    → plan.budget ≤ length trace.events
