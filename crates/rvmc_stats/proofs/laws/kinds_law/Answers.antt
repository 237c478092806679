use Rattle.rvmc_stats.proofs.EachKind.{kinds}
use Rattle.rvmc_stats.proofs.laws.kinds_law.Goals as goal

pub returns : goal.returns
returns c = kinds
