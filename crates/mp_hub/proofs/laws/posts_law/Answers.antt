use Rattle.mp_hub.proofs.Histories as law
use Rattle.mp_hub.proofs.laws.posts_law.Goals as goal

pub returns : goal.returns
returns c = law.posts_law
