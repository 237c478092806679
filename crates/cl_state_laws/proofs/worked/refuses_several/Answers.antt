use Rattle.cl_state_laws.proofs.WorkedSeveral as worked
use Rattle.cl_state_laws.proofs.worked.refuses_several.Goals as goal

pub returns : goal.returns
returns c = worked.refusals
