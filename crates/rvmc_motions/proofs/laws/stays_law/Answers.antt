use Rattle.rvmc_motions.proofs.Places.{stays_law}
use Rattle.rvmc_motions.proofs.laws.stays_law.Goals as goal

pub returns : goal.returns
returns c = stays_law
