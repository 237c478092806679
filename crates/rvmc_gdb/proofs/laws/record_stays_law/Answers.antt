use Rattle.rvmc_gdb.proofs.Stays as law
use Rattle.rvmc_gdb.proofs.laws.record_stays_law.Goals as goal

pub returns : goal.returns
returns c = law.record_stays_law
