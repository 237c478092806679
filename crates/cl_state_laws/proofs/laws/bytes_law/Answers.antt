use Rattle.cl_state_laws.proofs.Leaves as law
use Rattle.cl_state_laws.proofs.laws.bytes_law.Goals as goal

pub returns : goal.returns
returns c = law.bytes_law
