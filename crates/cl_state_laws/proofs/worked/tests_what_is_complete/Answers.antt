use Rattle.cl_state_laws.proofs.WorkedRequests as worked
use Rattle.cl_state_laws.proofs.worked.tests_what_is_complete.Goals as goal

pub returns : goal.returns
returns c = worked.test
