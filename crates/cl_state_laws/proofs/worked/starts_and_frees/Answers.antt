use Rattle.cl_state_laws.proofs.WorkedRequests as worked
use Rattle.cl_state_laws.proofs.worked.starts_and_frees.Goals as goal

pub returns : goal.returns
returns c = worked.persistent
