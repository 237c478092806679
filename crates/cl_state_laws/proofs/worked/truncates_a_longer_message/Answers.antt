use Rattle.cl_state_laws.proofs.Cases as worked
use Rattle.cl_state_laws.proofs.worked.truncates_a_longer_message.Goals as goal

pub returns : goal.returns
returns c = worked.truncated
