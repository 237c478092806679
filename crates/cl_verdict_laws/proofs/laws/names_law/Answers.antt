use Rattle.cl_verdict_laws.proofs.Live as law
use Rattle.cl_verdict_laws.proofs.laws.names_law.Goals as goal

pub returns : goal.returns
returns c = law.names_law
