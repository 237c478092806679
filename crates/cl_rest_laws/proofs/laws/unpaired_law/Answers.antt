use Rattle.cl_rest_laws.proofs.Unpaired as law
use Rattle.cl_rest_laws.proofs.laws.unpaired_law.Goals as goal

pub returns : goal.returns
returns c = law.unpaired_law
