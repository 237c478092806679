use Rattle.mp_clash_laws.proofs.Looks as source
use Rattle.mp_clash_laws.proofs.laws.vain_look_law.Goals as goal

pub returns : goal.returns
returns c = source.vain_look_law
