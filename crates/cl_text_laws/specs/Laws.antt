-- What is run is inside the limits of a record's text.
use Rattle.std.specs.Prelude.{List, All}
use Rattle.rv_image_types.specs.Image.{IsImage}
use Rattle.rv_image_types.specs.declared.images.ImageParts.{ImageParts}
use Rattle.cl_machine.specs.Cluster.{Cluster, IsRun, loaded_cluster}
use Rattle.cl_machine.specs.Merge.{IsMerge}
use Rattle.cl_machine.specs.declared.steps.Step.{Step}
use Rattle.cl_record.specs.Records.{IsMergedRun, steps_in}
use Rattle.cl_record.specs.declared.records.Record.{Record}
use Rattle.cl_text.specs.Limits.{FitsStep}

-- each step of a run of an image
abbrev pub RunsFitLaw : Type 0
RunsFitLaw =
    (image : ImageParts) (steps : List Step) (final : Cluster) → IsImage image
    → IsRun (loaded_cluster image) steps final → All (FitsStep image) steps

-- and each event of a record that is such a run, whoever put the events in order
abbrev pub RecordsFitLaw : Type 0
RecordsFitLaw =
    (image : ImageParts) (left : Record) (steps : List Step) → IsImage image → IsMergedRun image left
    → IsMerge (steps_in left) steps → All (FitsStep image) steps
