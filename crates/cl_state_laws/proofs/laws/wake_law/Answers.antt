use Rattle.cl_state_laws.proofs.Wakes as source
use Rattle.cl_state_laws.proofs.laws.wake_law.Goals as goal

pub returns : goal.returns
returns c = source.wake_law
