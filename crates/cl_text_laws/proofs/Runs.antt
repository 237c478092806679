-- Each step of a run is inside the limits.
use Rattle.std.specs.Prelude.{List, [], ◌∷◌}
use Rattle.std.specs.List.{AllByRecursion}
use Rattle.std.proofs.Common.{subst}
use Rattle.std.proofs.lemmas.List.Elements.{All-from_recursion}
use Rattle.rv_image_types.specs.Image.{IsImage}
use Rattle.rv_image_types.specs.declared.images.ImageParts.{ImageParts}
use Rattle.cl_machine.specs.Cluster.{Cluster, IsRun, loaded_cluster}
use Rattle.cl_machine.specs.declared.steps.Step.{Step}
use Rattle.cl_machine.proofs.Verdicts.{one_merge}
use Rattle.cl_record.specs.Records.{steps_in}
use Rattle.cl_text_laws.specs.Laws.{RecordsFitLaw, RunsFitLaw}
use Rattle.cl_text.specs.Limits.{FitsStep}
use Rattle.cl_text_laws.proofs.Clusters.{IsWithin, first_within, step_within}

steps_fit : (image : ImageParts) (steps : List Step) (old final : Cluster) → IsImage image → IsWithin image old
    → IsRun old steps final → AllByRecursion (FitsStep image) steps
steps_fit image [] old final is within run = tt
steps_fit image (e ∷ steps) old final is within run =
    let one = step_within image old run.0 e is within run.1 in
    (one.0, steps_fit image steps run.0 final is one.1 run.2)

pub runs_fit : RunsFitLaw
runs_fit image steps final is run =
    All-from_recursion (FitsStep image) steps
    (steps_fit image steps (loaded_cluster image) final is (first_within image is) run)

pub records_fit : RecordsFitLaw
records_fit image left steps is merged sorted =
    let same = one_merge (steps_in left) merged.steps steps merged.sorted sorted in
    runs_fit image steps merged.final is
    (subst (λ es. IsRun (loaded_cluster image) es merged.final) same merged.run)
