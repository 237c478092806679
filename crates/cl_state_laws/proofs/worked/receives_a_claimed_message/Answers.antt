use Rattle.cl_state_laws.proofs.WorkedRequests as worked
use Rattle.cl_state_laws.proofs.worked.receives_a_claimed_message.Goals as goal

pub returns : goal.returns
returns c = worked.claimed
