use Rattle.cl_state_laws.proofs.Misses as law
use Rattle.cl_state_laws.proofs.laws.miss_law.Goals as goal

pub returns : goal.returns
returns c = law.missed_in_vain
