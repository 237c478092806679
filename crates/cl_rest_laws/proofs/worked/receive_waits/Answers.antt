use Rattle.cl_rest_laws.proofs.Cases as worked
use Rattle.cl_rest_laws.proofs.worked.receive_waits.Goals as goal

pub returns : goal.returns
returns c = worked.receive_waits
