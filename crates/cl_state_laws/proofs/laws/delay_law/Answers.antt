use Rattle.cl_state_laws.proofs.Delays as law
use Rattle.cl_state_laws.proofs.laws.delay_law.Goals as goal

pub returns : goal.returns
returns c = law.delay_law
