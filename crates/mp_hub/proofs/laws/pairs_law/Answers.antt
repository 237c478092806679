use Rattle.mp_hub.proofs.Transfers as law
use Rattle.mp_hub.proofs.laws.pairs_law.Goals as goal

pub returns : goal.returns
returns c = law.pairs_law
