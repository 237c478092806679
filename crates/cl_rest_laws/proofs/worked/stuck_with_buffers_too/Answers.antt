use Rattle.cl_rest_laws.proofs.Cases as worked
use Rattle.cl_rest_laws.proofs.worked.stuck_with_buffers_too.Goals as goal

pub returns : goal.returns
returns c = worked.stuck_anyway
