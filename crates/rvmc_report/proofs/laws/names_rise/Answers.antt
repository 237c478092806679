use Rattle.rvmc_report.proofs.Names as law
use Rattle.rvmc_report.proofs.laws.names_rise.Goals as goal

pub returns : goal.returns
returns c = law.names_rise
