use Rattle.rvmc_serve.proofs.Answered as law
use Rattle.rvmc_serve.proofs.laws.quiet_law.Goals as goal

pub returns : goal.returns
returns c = law.quiet_law
