use Rattle.rvmc_explore.proofs.Apart.{split_law}
use Rattle.rvmc_explore.proofs.laws.split_law.Goals as goal

pub returns : goal.returns
returns c = split_law
