use Rattle.cl_rest_laws.proofs.Cases as worked
use Rattle.cl_rest_laws.proofs.worked.message_is_left.Goals as goal

pub returns : goal.returns
returns c = worked.unreceived
