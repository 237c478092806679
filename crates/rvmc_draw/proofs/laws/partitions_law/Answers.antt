use Rattle.rvmc_draw.proofs.Partitions.{partitions_law}
use Rattle.rvmc_draw.proofs.laws.partitions_law.Goals as goal

pub returns : goal.returns
returns c = partitions_law
