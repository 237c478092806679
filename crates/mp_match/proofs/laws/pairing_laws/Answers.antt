use Rattle.mp_match.proofs.Matched as law
use Rattle.mp_match.proofs.laws.pairing_laws.Goals as goal

pub returns : goal.returns
returns c = law.pairing_laws
