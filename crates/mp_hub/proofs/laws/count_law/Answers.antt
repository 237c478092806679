use Rattle.mp_hub.proofs.Counted as law
use Rattle.mp_hub.proofs.laws.count_law.Goals as goal

pub returns : goal.returns
returns c = law.count_law
