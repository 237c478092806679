use Rattle.rvmc_changes.proofs.Places as law
use Rattle.rvmc_changes.proofs.laws.places_law.Goals as goal

pub returns : goal.returns
returns c = law.places
