use Rattle.rvmc_report.proofs.Names as law
use Rattle.rvmc_report.proofs.laws.words_alone.Goals as goal

pub returns : goal.returns
returns c = law.words_alone
