-- What is put in is what the call makes of the side.
use Rattle.part_phase.specs.Sending.{readied}
use Rattle.part_phase.proofs.Changes.{sending_is}
use Rattle.part_phase.proofs.phases.Phases.ready.Goals as goal

pub returns : goal.returns
returns c = sending_is _ _ _ (readied c.args.part) _ _ c.put_sending.ensures c.readied.ensures c.sending.ensures.phase
