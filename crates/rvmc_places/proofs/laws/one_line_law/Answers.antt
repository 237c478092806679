use Rattle.rvmc_places.proofs.ReadBack as law
use Rattle.rvmc_places.proofs.laws.one_line_law.Goals as goal

pub returns : goal.returns
returns c = law.one_line
