use Rattle.rvmc_text_laws.proofs.OnTheWay as law
use Rattle.rvmc_text_laws.proofs.laws.on_the_way_law.Goals as goal

pub returns : goal.returns
returns c = law.on_the_way_law
