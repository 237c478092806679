use Rattle.rvmc_gdb.proofs.Agree as law
use Rattle.rvmc_gdb.proofs.laws.agree_law.Goals as goal

pub returns : goal.returns
returns c = law.agree_law
