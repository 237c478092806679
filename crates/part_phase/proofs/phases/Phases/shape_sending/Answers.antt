-- What is put in is what the call makes of the side.
use Rattle.part_phase.specs.Sending.{shaped_sending}
use Rattle.part_phase.proofs.Changes.{sending_is}
use Rattle.part_phase.proofs.phases.Phases.shape_sending.Goals as goal

pub returns : goal.returns
returns c =
    sending_is _ _ _ (shaped_sending c.args.parts c.args.size) _ _
    c.put_sending.ensures c.shaped.ensures c.sending.ensures.phase
