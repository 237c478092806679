use Rattle.mp_source_laws.proofs.Answers as law
use Rattle.mp_source_laws.proofs.laws.answers_law.Goals as goal

pub returns : goal.returns
returns c = law.answers_law
