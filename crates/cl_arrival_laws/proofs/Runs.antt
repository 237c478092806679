-- What is reported arrived in a record's run has come.
use Rattle.std.specs.Prelude.{IfOk, Result, Ok, Err}
use Rattle.rv_image_types.specs.declared.images.ImageParts.{ImageParts}
use Rattle.rv_image_types.specs.Image.{IsImage}
use Rattle.cl_record.specs.declared.records.Record.{Record}
use Rattle.cl_record.specs.declared.records.RunFault.{RunFault}
use Rattle.cl_record.specs.Records.{IsMergedRun}
use Rattle.cl_arrival_laws.specs.Runs.{IsArrivedRun}
use Rattle.cl_arrival_laws.proofs.Arrival.{arrival}

pub arrived_run : (image : ImageParts) (left : Record) → IsImage image → IsMergedRun image left → IsArrivedRun image left
arrived_run image left is merged =
    record { merged = merged; arrived = arrival image merged.steps merged.final is merged.run }

pub arrived_ok : (image : ImageParts) (r : Result Record RunFault) → IsImage image → IfOk r (IsMergedRun image)
    → IfOk r (IsArrivedRun image)
arrived_ok image (Ok left) is merged = arrived_run image left is merged
arrived_ok image (Err fault) is merged = tt
