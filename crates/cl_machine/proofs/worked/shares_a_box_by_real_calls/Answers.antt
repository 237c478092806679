use Rattle.cl_machine.proofs.Cases as worked
use Rattle.cl_machine.proofs.worked.shares_a_box_by_real_calls.Goals as goal

pub returns : goal.returns
returns c = worked.real_calls
