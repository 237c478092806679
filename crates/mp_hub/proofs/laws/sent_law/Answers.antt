use Rattle.mp_hub.proofs.SentKept as law
use Rattle.mp_hub.proofs.laws.sent_law.Goals as goal

pub returns : goal.returns
returns c = law.sent_law
