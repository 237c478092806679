-- What is set is what becomes of the side.
use Rattle.part_phase.specs.Phases.{on_sending}
use Rattle.part_phase.proofs.Changes.{set_is}
use Rattle.part_phase.proofs.phases.Phases.put_sending.Goals as goal

pub returns : goal.returns
returns c =
    set_is _ _ _ (on_sending (λ _. c.args.phase)) _ _
    c.put.ensures c.with_sending.ensures.changed c.at.ensures.phase
