use Rattle.cl_order_laws.proofs.Splits as law
use Rattle.cl_order_laws.proofs.laws.likewise_law.Goals as goal

pub returns : goal.returns
returns c = law.likewise_law
