use Rattle.rvmc_draw.proofs.Lost.{got_law}
use Rattle.rvmc_draw.proofs.laws.got_law.Goals as goal

pub returns : goal.returns
returns c = got_law
