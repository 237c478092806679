use Rattle.rvmc_stats.proofs.Witnesses.{falling}
use Rattle.rvmc_stats.proofs.laws.falling_law.Goals as goal

pub returns : goal.returns
returns c = falling
