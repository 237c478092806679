use Rattle.part_box.proofs.Kept.{gates}
use Rattle.part_box.proofs.laws.gate_law.Goals as goal

pub returns : goal.returns
returns c = gates
