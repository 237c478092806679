-- What a run on one thread leaves, judged, and the verdict on what any run leaves.
use Rattle.std.specs.Prelude.{ℕ, ◌≡◌, List, Option, Some, false, slice_get, true}
use Rattle.rv_image_types.specs.declared.images.ImageParts.{ImageParts}
use Rattle.cl_run.specs.Below.{IsArrivedRun}
use Rattle.cl_deadlock.specs.Why.{IsVerdictOf}
use Rattle.cl_machine.specs.Cluster.{Cluster, IsRun, loaded_cluster}
use Rattle.cl_machine.specs.Merge.{IsMerge}
use Rattle.cl_machine.specs.declared.steps.Step.{Step}
use Rattle.cl_rank.specs.declared.stops.Stop.{Stop}
use Rattle.cl_ending.specs.DeadEnds.{IsFreeEnd, IsStuckAt}
use Rattle.cl_ending.specs.declared.one.Stuck.{Stuck}
use Rattle.cl_record.specs.Records.{IsMergedRun, steps_in}
use Rattle.cl_record.specs.declared.plans.Plan.{Plan}
use Rattle.cl_record.specs.declared.records.Record.{Record}
use Rattle.cl_run.specs.Cuts.{IsEndedRun}
use Rattle.cl_run.specs.Runs.{IsOneRun}

-- it was ended in a deadlock, or it went by its plans to the end
pub record IsJudged (image : ImageParts) (plans : List Plan) (order : List ℕ) (end : Stuck) : Type 0 where
  pub run : IsEndedRun image plans order end.left
  pub whole : end.stuck ≡ false → IsOneRun image plans order end.left
  pub free : end.stuck ≡ false → IsFreeEnd image end.left
  pub stuck : end.stuck ≡ true → IsStuckAt image end.left
  pub merged : IsMergedRun image end.left
  pub arrived : IsArrivedRun image end.left

-- the events of a record, in order of their stamps, lead from the loaded cluster to one of which this is the verdict
pub record IsVerdictAt (image : ImageParts) (left : Record) (found : Option (List ℕ)) : Type 0 where
  pub steps : List Step
  pub sorted : IsMerge (steps_in left) steps
  pub final : Cluster
  pub run : IsRun (loaded_cluster image) steps final
  pub verdict : IsVerdictOf final found

-- each rank stopped because all its harts are stopped
abbrev pub HaveEnded : List Stop → Type 0
HaveEnded stops = (r : ℕ) (stop : Stop) → slice_get stops r ≡ Some stop → stop ≡ Stop.AllEnded
