use Rattle.rvmc_text_laws.proofs.OneText as law
use Rattle.rvmc_text_laws.proofs.laws.one_text_law.Goals as goal

pub returns : goal.returns
returns c = law.one_text_law
