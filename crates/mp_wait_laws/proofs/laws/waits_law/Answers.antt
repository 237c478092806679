use Rattle.mp_wait_laws.proofs.Waits as law
use Rattle.mp_wait_laws.proofs.laws.waits_law.Goals as goal

pub returns : goal.returns
returns c = law.waits_law
