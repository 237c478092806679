use Rattle.rvmc_stats.proofs.Witnesses.{waiting}
use Rattle.rvmc_stats.proofs.laws.waiting_law.Goals as goal

pub returns : goal.returns
returns c = waiting
