use Rattle.cl_rest_laws.proofs.Cases as worked
use Rattle.cl_rest_laws.proofs.worked.waits_for_synchronous_send.Goals as goal

pub returns : goal.returns
returns c = worked.sync_at_wait
