use Rattle.cl_machine.proofs.Law as law
use Rattle.cl_machine.proofs.laws.order_law.Goals as goal

pub returns : goal.returns
returns c = law.order_law
