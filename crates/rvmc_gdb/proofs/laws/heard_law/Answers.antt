use Rattle.rvmc_gdb.proofs.Heard as law
use Rattle.rvmc_gdb.proofs.laws.heard_law.Goals as goal

pub returns : goal.returns
returns c = law.heard_law
