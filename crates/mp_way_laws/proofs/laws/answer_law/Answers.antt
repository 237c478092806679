use Rattle.mp_way_laws.proofs.Answers as source
use Rattle.mp_way_laws.proofs.laws.answer_law.Goals as goal

pub returns : goal.returns
returns c = source.answer_law
