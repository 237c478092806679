use Rattle.rvmc_motions.proofs.Passed.{passes_none_law}
use Rattle.rvmc_motions.proofs.laws.passes_none_law.Goals as goal

pub returns : goal.returns
returns c = passes_none_law
