use Rattle.cl_state_laws.proofs.WorkedRequests as worked
use Rattle.cl_state_laws.proofs.worked.tests_a_receive.Goals as goal

pub returns : goal.returns
returns c = worked.receive
