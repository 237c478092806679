use Rattle.rvmc_draw.proofs.Waits.{bars_law}
use Rattle.rvmc_draw.proofs.laws.bars_law.Goals as goal

pub returns : goal.returns
returns c = bars_law
