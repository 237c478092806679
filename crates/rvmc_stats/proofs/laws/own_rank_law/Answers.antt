use Rattle.rvmc_stats.proofs.Witnesses.{own_rank}
use Rattle.rvmc_stats.proofs.laws.own_rank_law.Goals as goal

pub returns : goal.returns
returns c = own_rank
