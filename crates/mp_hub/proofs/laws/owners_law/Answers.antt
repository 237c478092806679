use Rattle.mp_hub.proofs.Owners as law
use Rattle.mp_hub.proofs.laws.owners_law.Goals as goal

pub returns : goal.returns
returns c = law.owners_law
