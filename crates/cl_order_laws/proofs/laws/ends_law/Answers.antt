use Rattle.cl_order_laws.proofs.Deadlocks as law
use Rattle.cl_order_laws.proofs.laws.ends_law.Goals as goal

pub returns : goal.returns
returns c = law.ends_law
