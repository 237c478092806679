use Rattle.cl_state_laws.proofs.WorkedPartitions as worked
use Rattle.cl_state_laws.proofs.worked.starts_a_phase.Goals as goal

pub returns : goal.returns
returns c = worked.start
