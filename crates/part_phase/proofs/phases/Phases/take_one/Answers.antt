-- What is put in is what the call makes of the side.
use Rattle.part_phase.specs.Receiving.{one_taken}
use Rattle.part_phase.proofs.Changes.{receiving_is}
use Rattle.part_phase.proofs.phases.Phases.take_one.Goals as goal

pub returns : goal.returns
returns c =
    receiving_is _ _ _ (one_taken c.args.place) _ _
    c.put_receiving.ensures c.one_taken.ensures c.receiving.ensures.phase
