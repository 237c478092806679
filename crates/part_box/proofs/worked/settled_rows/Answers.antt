use Rattle.part_box.proofs.Cases.{settled}
use Rattle.part_box.proofs.worked.settled_rows.Goals as goal

pub returns : goal.returns
returns c = settled
