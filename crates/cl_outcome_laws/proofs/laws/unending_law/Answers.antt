use Rattle.cl_outcome_laws.proofs.Unending as law
use Rattle.cl_outcome_laws.proofs.laws.unending_law.Goals as goal

pub returns : goal.returns
returns c = law.unending_law
