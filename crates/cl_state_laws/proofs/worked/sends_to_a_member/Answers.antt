use Rattle.cl_state_laws.proofs.Cases as worked
use Rattle.cl_state_laws.proofs.worked.sends_to_a_member.Goals as goal

pub returns : goal.returns
returns c = worked.send
