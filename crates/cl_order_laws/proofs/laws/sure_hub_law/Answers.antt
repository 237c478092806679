use Rattle.cl_order_laws.proofs.SureHub as law
use Rattle.cl_order_laws.proofs.laws.sure_hub_law.Goals as goal

pub returns : goal.returns
returns c = law.sure_hub_law
