use Rattle.cl_verdict_laws.proofs.Verdicts as law
use Rattle.cl_verdict_laws.proofs.laws.verdict_law.Goals as goal

pub returns : goal.returns
returns c = law.verdict_law
