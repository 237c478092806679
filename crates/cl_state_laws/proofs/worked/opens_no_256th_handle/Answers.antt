use Rattle.cl_state_laws.proofs.WorkedRequests as worked
use Rattle.cl_state_laws.proofs.worked.opens_no_256th_handle.Goals as goal

pub returns : goal.returns
returns c = worked.full
