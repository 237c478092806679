use Rattle.mp_wait_laws.proofs.Vain as law
use Rattle.mp_wait_laws.proofs.laws.vain_law.Goals as goal

pub returns : goal.returns
returns c = law.vain_law
