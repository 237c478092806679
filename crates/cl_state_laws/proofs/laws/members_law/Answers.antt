use Rattle.cl_state_laws.proofs.Members as members
use Rattle.cl_state_laws.proofs.laws.members_law.Goals as goal

pub returns : goal.returns
returns c = members.members_law
