use Rattle.mp_hub.proofs.Finished as law
use Rattle.mp_hub.proofs.laws.finished_law.Goals as goal

pub returns : goal.returns
returns c = law.finished_law
