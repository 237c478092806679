use Rattle.part_phase.proofs.SideLaws.{bounds}
use Rattle.part_phase.proofs.side_laws.bounds_law.Goals as goal

pub returns : goal.returns
returns c = bounds
