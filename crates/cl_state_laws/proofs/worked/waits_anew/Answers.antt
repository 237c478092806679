use Rattle.cl_state_laws.proofs.WorkedRequests as worked
use Rattle.cl_state_laws.proofs.worked.waits_anew.Goals as goal

pub returns : goal.returns
returns c = worked.wait
