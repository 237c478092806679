use Rattle.rvmc_explore.proofs.OneList.{one_list_law}
use Rattle.rvmc_explore.proofs.laws.one_list_law.Goals as goal

pub returns : goal.returns
returns c = one_list_law
