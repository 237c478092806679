use Rattle.cl_order_laws.proofs.SureAlone as law
use Rattle.cl_order_laws.proofs.laws.sure_alone_law.Goals as goal

pub returns : goal.returns
returns c = law.sure_alone_law
