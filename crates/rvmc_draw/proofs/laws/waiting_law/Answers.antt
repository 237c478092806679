use Rattle.rvmc_draw.proofs.Waits.{waiting_law}
use Rattle.rvmc_draw.proofs.laws.waiting_law.Goals as goal

pub returns : goal.returns
returns c = waiting_law
