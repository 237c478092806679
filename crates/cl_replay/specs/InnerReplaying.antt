-- Where a replay breaks off, and for what.
use Rattle.std.specs.Prelude.{ℕ, ◌≡◌, ◌<◌, ◌≤◌, List, length, take, slice_get, Some}
use Rattle.rv_image_types.specs.declared.images.ImageParts.{ImageParts}
use Rattle.cl_machine.specs.Cluster.{Cluster, IsRun, IsStep, loaded_cluster}
use Rattle.cl_machine.specs.declared.steps.Step.{Step}
use Rattle.cl_replay.specs.declared.replaying.ReplayFault.{ReplayFault}
use Rattle.cl_replay.specs.declared.states.ClusterState.{ClusterState}
use Rattle.cl_replay.specs.Steps.{LeadsNowhere}

-- the first k steps are a run of the image, and the step behind them isn't one of the cluster to which they lead
pub record BreaksAt (image : ImageParts) (steps : List Step) (k : ℕ) : Type 0 where
  pub cluster : Cluster
  pub run : IsRun (loaded_cluster image) (take k steps) cluster
  pub step : Step
  pub there : slice_get steps k ≡ Some step
  pub nowhere : (next : Cluster) → ¬ IsStep cluster step next

-- why a list of steps wasn't replayed up to the first n of them
abbrev pub ReplayFaultHolds : ImageParts → List Step → ℕ → ReplayFault → Type 0
ReplayFaultHolds image steps n (ReplayFault.PastEnd len) = (length steps < n) × (len ≡ length steps)
ReplayFaultHolds image steps n (ReplayFault.Step k) = (k < n) × (n ≤ length steps) × BreaksAt image steps k
ReplayFaultHolds image steps n ReplayFault.Memory = n ≤ length steps

-- why the step at a place wasn't done
abbrev pub StepBreaks : ClusterState → ℕ → Step → ReplayFault → Type 0
StepBreaks old place e (ReplayFault.Step k) = (k ≡ place) × LeadsNowhere old e
StepBreaks old place e ReplayFault.Memory = Unit {0}
StepBreaks old place e (ReplayFault.PastEnd len) = ⊥
