use Rattle.mp_hub.proofs.Owners as law
use Rattle.mp_hub.proofs.laws.replies_law.Goals as goal

pub returns : goal.returns
returns c = law.replies_law
