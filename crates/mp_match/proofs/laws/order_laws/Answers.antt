use Rattle.mp_match.proofs.OrderKept as law
use Rattle.mp_match.proofs.laws.order_laws.Goals as goal

pub returns : goal.returns
returns c = law.order_laws
