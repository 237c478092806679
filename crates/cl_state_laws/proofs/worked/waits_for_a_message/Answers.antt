use Rattle.cl_state_laws.proofs.Cases as worked
use Rattle.cl_state_laws.proofs.worked.waits_for_a_message.Goals as goal

pub returns : goal.returns
returns c = worked.waiting
