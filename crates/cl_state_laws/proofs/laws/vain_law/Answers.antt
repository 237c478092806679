use Rattle.cl_state_laws.proofs.Vain as vain
use Rattle.cl_state_laws.proofs.laws.vain_law.Goals as goal

pub returns : goal.returns
returns c = vain.vain_law
