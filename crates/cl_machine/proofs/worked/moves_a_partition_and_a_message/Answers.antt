use Rattle.cl_machine.proofs.Cases as worked
use Rattle.cl_machine.proofs.worked.moves_a_partition_and_a_message.Goals as goal

pub returns : goal.returns
returns c = worked.real_end
