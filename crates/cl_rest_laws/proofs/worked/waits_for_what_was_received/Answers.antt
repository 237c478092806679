use Rattle.cl_rest_laws.proofs.Cases as worked
use Rattle.cl_rest_laws.proofs.worked.waits_for_what_was_received.Goals as goal

pub returns : goal.returns
returns c = worked.received_at_wait
