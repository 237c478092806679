use Rattle.rvmc_draw.proofs.NeverTaken.{untaken_law}
use Rattle.rvmc_draw.proofs.laws.untaken_law.Goals as goal

pub returns : goal.returns
returns c = untaken_law
