use Rattle.mp_alike_laws.proofs.Rows as law
use Rattle.mp_alike_laws.proofs.worked.worked_hubs.Goals as goal

pub returns : goal.returns
returns c = law.worked_hubs
