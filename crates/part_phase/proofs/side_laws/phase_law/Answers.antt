use Rattle.part_phase.proofs.SideLaws.{receiving}
use Rattle.part_phase.proofs.side_laws.phase_law.Goals as goal

pub returns-clause-receiving : goal.returns-clause-receiving
returns-clause-receiving c = receiving
