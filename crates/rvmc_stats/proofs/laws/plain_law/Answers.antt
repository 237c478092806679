use Rattle.rvmc_stats.proofs.Witnesses.{plain}
use Rattle.rvmc_stats.proofs.laws.plain_law.Goals as goal

pub returns : goal.returns
returns c = plain
