use Rattle.cl_order_laws.proofs.Rows as law
use Rattle.cl_order_laws.proofs.worked.worked_orders.Goals as goal

pub returns : goal.returns
returns c = law.worked_orders
