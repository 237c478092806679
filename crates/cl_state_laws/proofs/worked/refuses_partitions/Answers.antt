use Rattle.cl_state_laws.proofs.WorkedPartitions as worked
use Rattle.cl_state_laws.proofs.worked.refuses_partitions.Goals as goal

pub returns : goal.returns
returns c = worked.unready
