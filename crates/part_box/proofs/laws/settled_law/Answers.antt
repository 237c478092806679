use Rattle.part_box.proofs.Kept.{settled}
use Rattle.part_box.proofs.laws.settled_law.Goals as goal

pub returns : goal.returns
returns c = settled
