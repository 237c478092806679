use Rattle.cl_machine.proofs.Cases as worked
use Rattle.cl_machine.proofs.worked.sends_first.Goals as goal

pub returns : goal.returns
returns c = worked.sends_first
