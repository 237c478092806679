use Rattle.cl_text.proofs.Fronts.Ends as law
use Rattle.cl_text.proofs.front.laws.end_law.Goals as goal

pub returns : goal.returns
returns c = law.end_law
