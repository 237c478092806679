-- What arrives in a record's run.
use Rattle.rv_image_types.specs.declared.images.ImageParts.{ImageParts}
use Rattle.cl_record.specs.declared.records.Record.{Record}
use Rattle.cl_record.specs.Records.{IsMergedRun}
use Rattle.cl_arrival_laws.specs.Arrival.{ArrivesInPhase}

-- the record's events in order of their stamps are a run, in which all that is reported arrived has come from the
-- sender's phase of the same number
pub record IsArrivedRun (image : ImageParts) (left : Record) : Type 0 where
  pub merged : IsMergedRun image left
  pub arrived : ArrivesInPhase image merged.steps merged.final
