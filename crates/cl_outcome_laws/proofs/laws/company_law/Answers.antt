use Rattle.cl_outcome_laws.proofs.Companies as law
use Rattle.cl_outcome_laws.proofs.laws.company_law.Goals as goal

pub returns : goal.returns
returns c = law.company_law
