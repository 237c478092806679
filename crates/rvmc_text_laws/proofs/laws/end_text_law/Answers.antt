use Rattle.rvmc_text_laws.proofs.EndTexts as law
use Rattle.rvmc_text_laws.proofs.laws.end_text_law.Goals as goal

pub returns : goal.returns
returns c = law.end_text_law
