use Rattle.cl_order_laws.proofs.Turns as law
use Rattle.cl_order_laws.proofs.laws.turns_law.Goals as goal

pub returns : goal.returns
returns c = law.turns_law
