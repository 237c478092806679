-- What is put in is what the call makes of the side.
use Rattle.part_phase.specs.Receiving.{shaped_receiving}
use Rattle.part_phase.proofs.Changes.{receiving_is}
use Rattle.part_phase.proofs.phases.Phases.shape_receiving.Goals as goal

pub returns : goal.returns
returns c =
    receiving_is _ _ _ (shaped_receiving c.args.parts c.args.size) _ _
    c.put_receiving.ensures c.shaped.ensures c.receiving.ensures.phase
