use Rattle.cl_state_laws.proofs.WorkedRequests as worked
use Rattle.cl_state_laws.proofs.worked.refuses_handles.Goals as goal

pub returns : goal.returns
returns c = worked.handles
