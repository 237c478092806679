use Rattle.cl_state_laws.proofs.Cases as worked
use Rattle.cl_state_laws.proofs.worked.refuses_by_the_first_check.Goals as goal

pub returns : goal.returns
returns c = worked.refusals
