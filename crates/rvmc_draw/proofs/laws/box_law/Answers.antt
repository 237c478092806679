use Rattle.rvmc_draw.proofs.Partitions.{box_law}
use Rattle.rvmc_draw.proofs.laws.box_law.Goals as goal

pub returns : goal.returns
returns c = box_law
