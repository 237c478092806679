use Rattle.rvmc_draw.proofs.Messages.{lost_law}
use Rattle.rvmc_draw.proofs.laws.lost_law.Goals as goal

pub returns : goal.returns
returns c = lost_law
