use Rattle.part_phase.proofs.Ends.{last_freed, next_free}
use Rattle.part_phase.proofs.laws.freeing_law.Goals as goal

pub returns-clause-next : goal.returns-clause-next
returns-clause-next c = next_free

pub returns-clause-last : goal.returns-clause-last
returns-clause-last c = last_freed
