use Rattle.cl_state_laws.proofs.WorkedPartitions as worked
use Rattle.cl_state_laws.proofs.worked.sees_partitions_arrive.Goals as goal

pub returns : goal.returns
returns c = worked.cut
