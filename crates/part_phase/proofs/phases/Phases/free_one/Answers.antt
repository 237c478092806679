-- What is put in is what the call makes of the side.
use Rattle.part_phase.specs.Sending.{one_freed}
use Rattle.part_phase.proofs.Changes.{sending_is}
use Rattle.part_phase.proofs.phases.Phases.free_one.Goals as goal

pub returns : goal.returns
returns c = sending_is _ _ _ one_freed _ _ c.put_sending.ensures c.one_freed.ensures c.sending.ensures.phase
