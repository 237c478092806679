use Rattle.cl_order_laws.proofs.Orders as law
use Rattle.cl_order_laws.proofs.laws.one_order_law.Goals as goal

pub returns : goal.returns
returns c = law.one_order_law
