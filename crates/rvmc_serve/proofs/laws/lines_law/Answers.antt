use Rattle.rvmc_serve.proofs.LineLaws as law
use Rattle.rvmc_serve.proofs.laws.lines_law.Goals as goal

pub returns : goal.returns
returns c = law.lines_law
