use Rattle.cl_order_laws.proofs.Covered as law
use Rattle.cl_order_laws.proofs.laws.covered_law.Goals as goal

pub returns : goal.returns
returns c = law.covered_law
