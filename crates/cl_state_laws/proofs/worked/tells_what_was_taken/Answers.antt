use Rattle.cl_state_laws.proofs.WorkedPartitions as worked
use Rattle.cl_state_laws.proofs.worked.tells_what_was_taken.Goals as goal

pub returns : goal.returns
returns c = worked.taken
