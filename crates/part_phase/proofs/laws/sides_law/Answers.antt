use Rattle.part_phase.proofs.Sides.{first_sides, one_side, readied_one}
use Rattle.part_phase.proofs.laws.sides_law.Goals as goal

pub returns-clause-first : goal.returns-clause-first
returns-clause-first c = first_sides

pub returns-clause-one : goal.returns-clause-one
returns-clause-one c = one_side

pub returns-clause-readied : goal.returns-clause-readied
returns-clause-readied c = readied_one
