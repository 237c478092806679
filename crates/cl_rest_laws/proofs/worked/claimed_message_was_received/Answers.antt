use Rattle.cl_rest_laws.proofs.Cases as worked
use Rattle.cl_rest_laws.proofs.worked.claimed_message_was_received.Goals as goal

pub returns : goal.returns
returns c = worked.claim_received
