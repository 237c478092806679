use Rattle.mp_source_laws.proofs.Likeness as law
use Rattle.mp_source_laws.proofs.laws.likeness_law.Goals as goal

pub returns : goal.returns
returns c = law.likeness_law
