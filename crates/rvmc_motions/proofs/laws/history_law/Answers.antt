use Rattle.rvmc_motions.proofs.Histories.{history_law}
use Rattle.rvmc_motions.proofs.laws.history_law.Goals as goal

pub returns : goal.returns
returns c = history_law
