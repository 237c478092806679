use Rattle.rvmc_stats.proofs.Witnesses.{first_has_most}
use Rattle.rvmc_stats.proofs.laws.first_law.Goals as goal

pub returns : goal.returns
returns c = first_has_most
