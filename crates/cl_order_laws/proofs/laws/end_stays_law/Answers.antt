use Rattle.cl_order_laws.proofs.Stays as law
use Rattle.cl_order_laws.proofs.laws.end_stays_law.Goals as goal

pub returns : goal.returns
returns c = law.end_stays_law
