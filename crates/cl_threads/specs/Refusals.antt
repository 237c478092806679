-- Why there is no record of a run with a thread for each rank.
use Rattle.std.specs.Prelude.{ℕ, ◌≡◌, List, length, slice_get, Some}
use Rattle.rv_image_types.specs.declared.images.ImageParts.{ImageParts}
use Rattle.rv_image_types.specs.declared.images.Link.{Link}
use Rattle.cl_journal.specs.declared.entries.Entry.{Entry}
use Rattle.cl_trace.specs.Traces.{TraceView}
use Rattle.cl_state.specs.Rank.{Rank, loaded}
use Rattle.cl_deeds.specs.Alone.{IsAlone}
use Rattle.cl_deeds.specs.Deeds.{Deed}
use Rattle.cl_rank.specs.declared.stops.Stop.{Stop}
use Rattle.cl_record.specs.Plans.{HasPlans}
use Rattle.cl_record.specs.declared.plans.Plan.{Plan}
use Rattle.cl_record.specs.declared.records.RunFault.{RunFault}
use Rattle.cl_record.specs.declared.records.RunFault.TheVariants as fault
use Rattle.cl_threads.specs.Runs.{IsTracedRank}
use Rattle.cl_threads.specs.Ties.{IsUnlikeLeft}

-- the threads ran to their ends, and left what doesn't fit together: each rank went alone from its image, by its plan,
-- as its trace tells, and this is told of the first place where the hub's calls aren't those of the traces
pub record IsLeftUnlike (image : ImageParts) (plans : List Plan) (told : RunFault) : Type 0 where
  pub traces : List TraceView
  pub one_each : length traces ≡ image.ranks
  pub went : (r : ℕ) (plan : Plan) (trace : TraceView) → slice_get plans r ≡ Some plan
      → slice_get traces r ≡ Some trace
      → (deeds : List Deed) × (rank : Rank) × (stop : Stop) × IsAlone (loaded image r) deeds rank
      × IsTracedRank plan deeds trace.events rank stop
  -- the hub's links and calls
  pub links : List Link
  pub entries : List Entry
  pub unlike : IsUnlikeLeft image links entries traces told

-- a run is refused for its plans where one is wrong, and only where all are right for anything else: Unlike only with
-- the rank and the place at which what the threads left differs first
abbrev pub IsRefusal : ImageParts → List Plan → RunFault → Type 0
IsRefusal image plans fault.Plans = ¬ (HasPlans image plans)
IsRefusal image plans (fault.Unlike rank place) =
    HasPlans image plans × IsLeftUnlike image plans (fault.Unlike rank place)
IsRefusal image plans other = HasPlans image plans
