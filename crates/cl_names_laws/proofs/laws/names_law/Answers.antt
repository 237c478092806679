use Rattle.cl_names_laws.proofs.Told as law
use Rattle.cl_names_laws.proofs.laws.names_law.Goals as goal

pub returns : goal.returns
returns c = law.names_law
