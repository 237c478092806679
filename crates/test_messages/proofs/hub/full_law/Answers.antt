use Rattle.test_messages.proofs.Held as law
use Rattle.test_messages.proofs.hub.full_law.Goals as goal

pub returns : goal.returns
returns c = law.full_law
