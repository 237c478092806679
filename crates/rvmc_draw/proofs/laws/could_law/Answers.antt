use Rattle.rvmc_draw.proofs.Could.{could_law}
use Rattle.rvmc_draw.proofs.laws.could_law.Goals as goal

pub returns : goal.returns
returns c = could_law
