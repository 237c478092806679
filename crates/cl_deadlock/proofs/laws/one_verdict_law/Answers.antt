use Rattle.cl_deadlock.proofs.One.{one_verdict}
use Rattle.cl_deadlock.proofs.laws.one_verdict_law.Goals as goal

pub returns : goal.returns
returns c = one_verdict
