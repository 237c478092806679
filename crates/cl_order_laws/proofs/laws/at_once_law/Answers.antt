use Rattle.cl_order_laws.proofs.AtOnce as law
use Rattle.cl_order_laws.proofs.laws.at_once_law.Goals as goal

pub returns : goal.returns
returns c = law.at_once_law
