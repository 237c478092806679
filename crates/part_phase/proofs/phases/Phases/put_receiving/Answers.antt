-- What is set is what becomes of the side.
use Rattle.part_phase.specs.Phases.{on_receiving}
use Rattle.part_phase.proofs.Changes.{set_is}
use Rattle.part_phase.proofs.phases.Phases.put_receiving.Goals as goal

pub returns : goal.returns
returns c =
    set_is _ _ _ (on_receiving (λ _. c.args.phase)) _ _
    c.put.ensures c.with_receiving.ensures.changed c.at.ensures.phase
