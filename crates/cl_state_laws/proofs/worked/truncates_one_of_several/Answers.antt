use Rattle.cl_state_laws.proofs.WorkedSeveral as worked
use Rattle.cl_state_laws.proofs.worked.truncates_one_of_several.Goals as goal

pub returns : goal.returns
returns c = worked.two_pending_row
