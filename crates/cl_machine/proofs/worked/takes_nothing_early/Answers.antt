use Rattle.cl_machine.proofs.Cases as worked
use Rattle.cl_machine.proofs.worked.takes_nothing_early.Goals as goal

pub returns : goal.returns
returns c = worked.early
