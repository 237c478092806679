use Rattle.cl_state_laws.proofs.WorkedRequests as worked
use Rattle.cl_state_laws.proofs.worked.opens_the_lowest_free_handle.Goals as goal

pub returns : goal.returns
returns c = worked.open_row
