use Rattle.rvmc_serve.proofs.Answered as law
use Rattle.rvmc_serve.proofs.laws.answers_law.Goals as goal

pub returns : goal.returns
returns c = law.answers_law
