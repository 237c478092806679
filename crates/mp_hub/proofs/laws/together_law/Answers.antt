use Rattle.mp_hub.proofs.Together as law
use Rattle.mp_hub.proofs.laws.together_law.Goals as goal

pub returns : goal.returns
returns c = law.together_law
