use Rattle.part_phase.proofs.Ends.{begun_send, begun_receive}
use Rattle.part_phase.proofs.laws.beginning_law.Goals as goal

pub returns-clause-sending : goal.returns-clause-sending
returns-clause-sending c = begun_send

pub returns-clause-receiving : goal.returns-clause-receiving
returns-clause-receiving c = begun_receive
