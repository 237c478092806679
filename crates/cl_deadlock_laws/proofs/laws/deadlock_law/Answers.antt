use Rattle.cl_deadlock_laws.proofs.Runs as law
use Rattle.cl_deadlock_laws.proofs.laws.deadlock_law.Goals as goal

pub returns : goal.returns
returns c = law.deadlock_law
