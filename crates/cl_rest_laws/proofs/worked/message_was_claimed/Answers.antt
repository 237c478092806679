use Rattle.cl_rest_laws.proofs.Cases as worked
use Rattle.cl_rest_laws.proofs.worked.message_was_claimed.Goals as goal

pub returns : goal.returns
returns c = worked.was_claimed
