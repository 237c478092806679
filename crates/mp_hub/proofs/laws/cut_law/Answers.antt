use Rattle.mp_hub.proofs.Transfers as law
use Rattle.mp_hub.proofs.laws.cut_law.Goals as goal

pub returns : goal.returns
returns c = law.cut_law
