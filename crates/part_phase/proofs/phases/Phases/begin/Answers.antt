-- What is set is what becomes of the side.
use Rattle.part_phase.specs.Phases.{begun}
use Rattle.part_phase.proofs.Changes.{set_is}
use Rattle.part_phase.proofs.phases.Phases.begin.Goals as goal

pub returns : goal.returns
returns c = set_is _ _ _ begun _ _ c.put.ensures c.begun.ensures.begun c.at.ensures.phase
