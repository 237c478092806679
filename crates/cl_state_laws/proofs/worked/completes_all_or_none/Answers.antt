use Rattle.cl_state_laws.proofs.WorkedSeveral as worked
use Rattle.cl_state_laws.proofs.worked.completes_all_or_none.Goals as goal

pub returns : goal.returns
returns c = worked.done_and_pending_row
