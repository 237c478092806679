use Rattle.cl_order_laws.proofs.Ends as law
use Rattle.cl_order_laws.proofs.laws.every_end_law.Goals as goal

pub returns : goal.returns
returns c = law.every_end_law
