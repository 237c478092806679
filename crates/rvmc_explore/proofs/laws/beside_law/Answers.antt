use Rattle.rvmc_explore.proofs.Forever.{beside_law}
use Rattle.rvmc_explore.proofs.laws.beside_law.Goals as goal

pub returns : goal.returns
returns c = beside_law
