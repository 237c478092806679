use Rattle.rvmc_draw.proofs.Boards.{arrow_law}
use Rattle.rvmc_draw.proofs.laws.arrow_law.Goals as goal

pub returns : goal.returns
returns c = arrow_law
