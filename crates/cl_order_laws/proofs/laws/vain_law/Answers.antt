use Rattle.cl_order_laws.proofs.Vain as law
use Rattle.cl_order_laws.proofs.laws.vain_law.Goals as goal

pub returns : goal.returns
returns c = law.vain_law
