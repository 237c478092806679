use Rattle.rvmc_explore.proofs.Statuses.{status_law}
use Rattle.rvmc_explore.proofs.laws.status_law.Goals as goal

pub returns : goal.returns
returns c = status_law
