use Rattle.rvmc_report.proofs.Reached as law
use Rattle.rvmc_report.proofs.laws.same_report.Goals as goal

pub returns : goal.returns
returns c = law.same_report
