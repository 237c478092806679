use Rattle.cl_state_laws.proofs.Asks as asks
use Rattle.cl_state_laws.proofs.laws.posts_law.Goals as goal

pub returns : goal.returns
returns c = asks.at_most_255
