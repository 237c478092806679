-- Why a walk doesn't go on.
use Rattle.std.specs.Prelude.{ℕ, ◌<◌, List}
use Rattle.rv_image_types.specs.declared.images.ImageParts.{ImageParts}
use Rattle.cl_machine.specs.declared.steps.Step.{Step}
use Rattle.cl_replay.specs.InnerReplaying.{BreaksAt}
use Rattle.cl_replay.specs.Replaying.{IsReached}
use Rattle.cl_replay.specs.declared.replaying.ReplayFault.{ReplayFault}
use Rattle.cl_replay.specs.declared.replaying.ReplayFault.TheVariants as fault
use Rattle.cl_replay.specs.declared.states.ClusterState.{ClusterState}

-- why not all steps up to a place were done
abbrev pub StepsBreak : List Step → ℕ → ClusterState → ℕ → ReplayFault → Type 0
StepsBreak steps from old to (fault.Step n) =
    (n < to) × ((image : ImageParts) → IsReached image steps from old → BreaksAt image steps n)
StepsBreak steps from old to fault.Memory = Unit {0}
StepsBreak steps from old to (fault.PastEnd len) = ⊥
