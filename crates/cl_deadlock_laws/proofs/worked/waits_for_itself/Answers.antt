use Rattle.cl_deadlock_laws.proofs.Cases as worked
use Rattle.cl_deadlock_laws.proofs.worked.waits_for_itself.Goals as goal

pub returns : goal.returns
returns c = worked.from_itself
