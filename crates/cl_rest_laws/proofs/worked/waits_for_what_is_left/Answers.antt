use Rattle.cl_rest_laws.proofs.Cases as worked
use Rattle.cl_rest_laws.proofs.worked.waits_for_what_is_left.Goals as goal

pub returns : goal.returns
returns c = worked.unreceived_at_wait
