use Rattle.cl_rest_laws.proofs.Ends as law
use Rattle.cl_rest_laws.proofs.laws.end_law.Goals as goal

pub returns : goal.returns
returns c = law.end_law
