use Rattle.rvmc_motions.proofs.Idle.{idle_law}
use Rattle.rvmc_motions.proofs.laws.idle_law.Goals as goal

pub returns : goal.returns
returns c = idle_law
