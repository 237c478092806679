use Rattle.cl_order_laws.proofs.Sure as law
use Rattle.cl_order_laws.proofs.laws.sure_law.Goals as goal

pub returns : goal.returns
returns c = law.sure_law
