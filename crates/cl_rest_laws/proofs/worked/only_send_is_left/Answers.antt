use Rattle.cl_rest_laws.proofs.Cases as worked
use Rattle.cl_rest_laws.proofs.worked.only_send_is_left.Goals as goal

pub returns : goal.returns
returns c = worked.only_send_left
