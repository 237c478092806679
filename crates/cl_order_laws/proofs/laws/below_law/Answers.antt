use Rattle.cl_order_laws.proofs.Steps as law
use Rattle.cl_order_laws.proofs.laws.below_law.Goals as goal

pub returns : goal.returns
returns c = law.below_law
