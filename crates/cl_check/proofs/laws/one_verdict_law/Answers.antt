use Rattle.cl_check.proofs.Verdicts as proof
use Rattle.cl_check.proofs.laws.one_verdict_law.Goals as goal

pub returns : goal.returns
returns c = proof.one_verdict
