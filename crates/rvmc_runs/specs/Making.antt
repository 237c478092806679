-- What the steps to the answer of a run leave.
use Rattle.std.specs.Prelude.{◌≡◌, length}
use Rattle.cl_record.specs.Records.{IsMergedRun}
use Rattle.cl_record.specs.declared.records.Record.{Record}
use Rattle.rv_image_types.specs.Image.{IsImage}
use Rattle.rv_image_types.specs.declared.images.ImageParts.{ImageParts}
use Rattle.rvmc_answers.specs.Below.{HasEachRank}

-- a record of all ranks of an image, whose events, in order of their stamps, are a run of the written machine
pub record IsLeft (image : ImageParts) (left : Record) : Type 0 where
  pub limits : IsImage image
  pub ranks : length left.traces.items ≡ image.ranks
  pub each : HasEachRank left
  pub merged : IsMergedRun image left
