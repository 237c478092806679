use Rattle.rvmc_text_laws.proofs.Why as law
use Rattle.rvmc_text_laws.proofs.laws.why_law.Goals as goal

pub returns : goal.returns
returns c = law.why_law
