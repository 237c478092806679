use Rattle.cl_machine.proofs.Cases as worked
use Rattle.cl_machine.proofs.worked.shares_a_box.Goals as goal

pub returns : goal.returns
returns c = worked.shared
