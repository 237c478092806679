-- Why there is no record of a run whose ranks may have been told to stop.
use Rattle.std.specs.Prelude.{List}
use Rattle.rv_image_types.specs.declared.images.ImageParts.{ImageParts}
use Rattle.cl_rank.specs.declared.stops.Stop.{Stop}
use Rattle.cl_record.specs.Plans.{HasPlans}
use Rattle.cl_record.specs.declared.plans.Plan.{Plan}
use Rattle.cl_record.specs.declared.records.RunFault.{RunFault}
use Rattle.cl_record.specs.declared.records.RunFault.TheVariants as fault
use Rattle.cl_threads.specs.Cuts.{AreBy}
use Rattle.cl_threads.specs.Refusals.{IsLeftUnlike}
use Rattle.cl_threads.specs.declared.until.Until.{Until}

-- a run with ranks that take turns so: by these plans
abbrev pub IsRefusalUntil : Until → ImageParts → List Plan → RunFault → Type 0
IsRefusalUntil until image plans fault.Plans = ¬ (HasPlans image plans)
IsRefusalUntil until image plans (fault.Unlike rank place) =
    HasPlans image plans
    × ((cuts : List Plan) × (stops : List Stop) × AreBy until plans cuts stops
    × IsLeftUnlike image cuts (fault.Unlike rank place))
IsRefusalUntil until image plans other = HasPlans image plans

-- one whose ranks may have been told to stop
abbrev pub IsEndedRefusal : ImageParts → List Plan → RunFault → Type 0
IsEndedRefusal image plans told = IsRefusalUntil Until.Told image plans told
