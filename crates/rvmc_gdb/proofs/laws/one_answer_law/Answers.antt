use Rattle.rvmc_gdb.proofs.Told as law
use Rattle.rvmc_gdb.proofs.laws.one_answer_law.Goals as goal

pub returns : goal.returns
returns c = law.one_answer_law
