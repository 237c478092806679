use Rattle.rvmc_gdb.proofs.Heard as law
use Rattle.rvmc_gdb.proofs.laws.left_law.Goals as goal

pub returns : goal.returns
returns c = law.left_law
