-- The steps to an outcome, whichever image and order the search was of.
use Rattle.std.specs.Prelude.{ℕ, ◌≡◌, List, Option, None, Some}
use Rattle.rv_image_types.specs.Image.{IsImage}
use Rattle.rv_image_types.specs.declared.images.ImageParts.{ImageParts}
use Rattle.cl_machine.specs.Cluster.{Cluster, IsRun, loaded_cluster}
use Rattle.cl_machine.specs.Merge.{IsMerge}
use Rattle.cl_machine.specs.Order.{of_rank}
use Rattle.cl_machine.specs.declared.steps.Step.{Step}
use Rattle.rvmc_explore.specs.Recorded.{numbered}
use Rattle.rvmc_explore.specs.declared.outcomes.Outcome.{Outcome}

-- the steps are the turns in the order of a record, wherever these lead
abbrev pub IsInOrder : List Step → List Step → Type 0
IsInOrder turns steps =
    (image : ImageParts) (final : Cluster) → IsImage image → IsRun (loaded_cluster image) turns final
    → IsMerge (λ r. of_rank (λ (e : Step). e.rank) r turns) steps × IsRun (loaded_cluster image) steps final

-- the turns of the outcome of this number, in the order of a record, and none where there is none
abbrev pub RecordsIn : List Outcome → ℕ → Option (List Step) → Type 0
RecordsIn told number None = numbered told number ≡ None
RecordsIn told number (Some steps) =
    (outcome : Outcome) × (numbered told number ≡ Some outcome) × IsInOrder outcome.way steps
