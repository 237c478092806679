use Rattle.cl_state_laws.proofs.WorkedPartitions as worked
use Rattle.cl_state_laws.proofs.worked.completes_a_partitioned_receive.Goals as goal

pub returns : goal.returns
returns c = worked.received_whole
