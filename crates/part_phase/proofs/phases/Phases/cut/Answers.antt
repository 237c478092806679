-- What is put in is what the call makes of the side.
use Rattle.part_phase.specs.Receiving.{cut_into}
use Rattle.part_phase.proofs.Changes.{receiving_is}
use Rattle.part_phase.proofs.phases.Phases.cut.Goals as goal

pub returns : goal.returns
returns c =
    receiving_is _ _ _ (cut_into c.args.boxes c.args.bytes) _ _
    c.put_receiving.ensures c.cut_into.ensures c.receiving.ensures.phase
