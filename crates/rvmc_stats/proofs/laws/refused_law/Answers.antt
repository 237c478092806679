use Rattle.rvmc_stats.proofs.Witnesses.{refused}
use Rattle.rvmc_stats.proofs.laws.refused_law.Goals as goal

pub returns : goal.returns
returns c = refused
