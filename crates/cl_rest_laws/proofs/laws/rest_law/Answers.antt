use Rattle.cl_rest_laws.proofs.Resting as law
use Rattle.cl_rest_laws.proofs.laws.rest_law.Goals as goal

pub returns : goal.returns
returns c = law.rest_law
