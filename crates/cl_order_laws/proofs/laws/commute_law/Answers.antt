use Rattle.cl_order_laws.proofs.Commuting as law
use Rattle.cl_order_laws.proofs.laws.commute_law.Goals as goal

pub returns : goal.returns
returns c = law.commute_law
