use Rattle.cl_deadlock_laws.proofs.Unions as law
use Rattle.cl_deadlock_laws.proofs.laws.union_law.Goals as goal

pub returns : goal.returns
returns c = law.union_law
