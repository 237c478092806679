use Rattle.part_phase.proofs.SideLaws.{changed, free}
use Rattle.part_phase.proofs.side_laws.one_side_law.Goals as goal

pub returns-clause-changed : goal.returns-clause-changed
returns-clause-changed c = changed

pub returns-clause-free : goal.returns-clause-free
returns-clause-free c = free
