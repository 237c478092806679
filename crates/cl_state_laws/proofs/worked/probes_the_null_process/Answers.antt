use Rattle.cl_state_laws.proofs.WorkedRequests as worked
use Rattle.cl_state_laws.proofs.worked.probes_the_null_process.Goals as goal

pub returns : goal.returns
returns c = worked.null_probe
