use Rattle.part_phase.proofs.Arrivals.{arrived, awaited, cut}
use Rattle.part_phase.proofs.laws.arrival_law.Goals as goal

pub returns-clause-cut : goal.returns-clause-cut
returns-clause-cut c = cut

pub returns-clause-arrived : goal.returns-clause-arrived
returns-clause-arrived c = arrived

pub returns-clause-awaited : goal.returns-clause-awaited
returns-clause-awaited c = awaited
