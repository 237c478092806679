use Rattle.cl_order_laws.proofs.GoAlike as law
use Rattle.cl_order_laws.proofs.laws.go_alike_law.Goals as goal

pub returns : goal.returns
returns c = law.go_alike_law
