use Rattle.part_phase.proofs.Arrivals.{next}
use Rattle.part_phase.proofs.Ends.{last_taken, one_more}
use Rattle.part_phase.proofs.laws.taking_law.Goals as goal

pub returns-clause-next : goal.returns-clause-next
returns-clause-next c = next

pub returns-clause-last : goal.returns-clause-last
returns-clause-last c = last_taken

pub returns-clause-one : goal.returns-clause-one
returns-clause-one c = one_more
