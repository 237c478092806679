use Rattle.cl_verdict_laws.proofs.Asking as law
use Rattle.cl_verdict_laws.proofs.laws.asking_law.Goals as goal

pub returns : goal.returns
returns c = law.asking_law
