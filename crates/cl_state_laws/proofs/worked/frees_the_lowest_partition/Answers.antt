use Rattle.cl_state_laws.proofs.WorkedPartitions as worked
use Rattle.cl_state_laws.proofs.worked.frees_the_lowest_partition.Goals as goal

pub returns : goal.returns
returns c = worked.freed
