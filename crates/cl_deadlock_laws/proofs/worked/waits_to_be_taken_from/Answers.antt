use Rattle.cl_deadlock_laws.proofs.Cases as worked
use Rattle.cl_deadlock_laws.proofs.worked.waits_to_be_taken_from.Goals as goal

pub returns : goal.returns
returns c = worked.none_takes
