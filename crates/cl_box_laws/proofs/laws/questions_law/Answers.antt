use Rattle.cl_box_laws.proofs.Kept as source
use Rattle.cl_box_laws.proofs.laws.questions_law.Goals as goal

pub returns : goal.returns
returns c = source.questions
