use Rattle.mp_hub.proofs.Losses as law
use Rattle.mp_hub.proofs.laws.loss_law.Goals as goal

pub returns : goal.returns
returns c = law.loss_law
