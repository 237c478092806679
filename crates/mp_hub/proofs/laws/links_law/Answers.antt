use Rattle.mp_hub.proofs.Links as law
use Rattle.mp_hub.proofs.laws.links_law.Goals as goal

pub returns : goal.returns
returns c = law.links_law
