use Rattle.cl_state_laws.proofs.Cases as worked
use Rattle.cl_state_laws.proofs.worked.receives_from_the_null_process.Goals as goal

pub returns : goal.returns
returns c = worked.null
