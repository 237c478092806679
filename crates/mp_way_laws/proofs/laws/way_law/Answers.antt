use Rattle.mp_way_laws.proofs.Came as source
use Rattle.mp_way_laws.proofs.laws.way_law.Goals as goal

pub returns : goal.returns
returns c = source.way_law
