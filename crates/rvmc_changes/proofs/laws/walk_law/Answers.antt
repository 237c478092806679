use Rattle.rvmc_changes.proofs.Walked as law
use Rattle.rvmc_changes.proofs.laws.walk_law.Goals as goal

pub returns : goal.returns
returns c = law.walks_there
