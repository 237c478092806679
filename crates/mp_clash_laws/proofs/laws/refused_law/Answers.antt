use Rattle.mp_clash_laws.proofs.Refused as source
use Rattle.mp_clash_laws.proofs.laws.refused_law.Goals as goal

pub returns : goal.returns
returns c = source.refused_law
