use Rattle.rvmc_text_laws.proofs.Begun as law
use Rattle.rvmc_text_laws.proofs.laws.begun_law.Goals as goal

pub returns : goal.returns
returns c = law.begun_law
