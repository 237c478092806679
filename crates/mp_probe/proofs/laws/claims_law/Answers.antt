use Rattle.mp_probe.proofs.Claimed as claimed
use Rattle.mp_probe.proofs.laws.claims_law.Goals as goal

pub returns : goal.returns
returns c = claimed.law
