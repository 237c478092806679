use Rattle.cl_state_laws.proofs.WorkedPartitions as worked
use Rattle.cl_state_laws.proofs.worked.makes_partitions_ready.Goals as goal

pub returns : goal.returns
returns c = worked.ready
