use Rattle.cl_order_laws.proofs.Likeness as law
use Rattle.cl_order_laws.proofs.laws.likeness_law.Goals as goal

pub returns : goal.returns
returns c = law.likeness_law
