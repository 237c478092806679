use Rattle.cl_state_laws.proofs.WorkedSeveral as worked
use Rattle.cl_state_laws.proofs.worked.completes_none.Goals as goal

pub returns : goal.returns
returns c = worked.none_row
