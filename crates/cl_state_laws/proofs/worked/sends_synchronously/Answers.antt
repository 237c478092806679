use Rattle.cl_state_laws.proofs.WorkedRequests as worked
use Rattle.cl_state_laws.proofs.worked.sends_synchronously.Goals as goal

pub returns : goal.returns
returns c = worked.ssend
