use Rattle.rvmc_draw.proofs.Partitions.{lanes_law}
use Rattle.rvmc_draw.proofs.laws.lanes_law.Goals as goal

pub returns : goal.returns
returns c = lanes_law
