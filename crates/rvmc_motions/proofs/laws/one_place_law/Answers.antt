use Rattle.rvmc_motions.proofs.Places.{one_place_law}
use Rattle.rvmc_motions.proofs.laws.one_place_law.Goals as goal

pub returns : goal.returns
returns c = one_place_law
