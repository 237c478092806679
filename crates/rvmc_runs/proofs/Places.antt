-- The places of a record whose steps are a run.
use Rattle.std.proofs.Common.{◌≡◌, ℕ, List, subst}
use Rattle.cl_machine.specs.Merge.{IsMerge}
use Rattle.cl_machine.specs.declared.steps.Step.{Step}
use Rattle.cl_record.specs.Records.{IsMergedRun, steps_in}
use Rattle.cl_record.specs.declared.records.Record.{Record}
use Rattle.cl_replay_laws.proofs.Records.{merged_replays}
use Rattle.cl_replay.specs.InnerReplaying.{BreaksAt, ReplayFaultHolds}
use Rattle.cl_replay.specs.declared.replaying.ReplayFault.{ReplayFault}
use Rattle.cl_replay.specs.declared.replaying.ReplayFault.TheVariants as replay
use Rattle.rv_image_types.specs.declared.images.ImageParts.{ImageParts}

-- none of a record's steps, in order, is refused as one that isn't the machine's
pub no_break : (image : ImageParts) (left : Record) (sorted steps : List Step) (n k : ℕ) (fault : ReplayFault)
    → IsMergedRun image left → IsMerge (steps_in left) sorted → steps ≡ sorted → fault ≡ replay.Step k
    → ReplayFaultHolds image steps n fault → ⊥
no_break image left sorted steps n k fault merged is same at_step holds =
    let at : ReplayFaultHolds image steps n (replay.Step k) =
    subst (λ (f : ReplayFault). ReplayFaultHolds image steps n f) at_step holds in
    (merged_replays image left sorted merged is).unbroken k (subst (λ (s : List Step). BreaksAt image s k) same at.2)
