-- What a check of a list of steps finds.
use Rattle.std.specs.Prelude.{◌<◌, ◌+◌, List, length, take}
use Rattle.rv_image_types.specs.declared.images.ImageParts.{ImageParts}
use Rattle.cl_machine.specs.Cluster.{Cluster, IsRun, loaded_cluster}
use Rattle.cl_machine.specs.Order.{InOrder}
use Rattle.cl_machine.specs.declared.steps.Step.{Step}
use Rattle.cl_check.specs.declared.checking.Verdict.{Verdict}

-- the steps are a run of the image, in order of their stamps, and where stamps are equal of their ranks
pub record IsOrderedRun (image : ImageParts) (steps : List Step) : Type 0 where
  pub cluster : Cluster
  pub run : IsRun (loaded_cluster image) steps cluster
  pub in_order : InOrder (λ (e : Step). e.stamp) (λ (e : Step). e.rank) steps

-- good are steps that are a run in order; bad at step n are those of which the steps before it are so, and with it
-- aren't
abbrev pub IsVerdict : ImageParts → List Step → Verdict → Type 0
IsVerdict image steps Verdict.Good = IsOrderedRun image steps
IsVerdict image steps (Verdict.BadAt n) =
    (n < length steps) × IsOrderedRun image (take n steps) × ¬ IsOrderedRun image (take (n + 1) steps)
