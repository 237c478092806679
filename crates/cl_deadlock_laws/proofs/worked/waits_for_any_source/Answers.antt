use Rattle.cl_deadlock_laws.proofs.Cases as worked
use Rattle.cl_deadlock_laws.proofs.worked.waits_for_any_source.Goals as goal

pub returns : goal.returns
returns c = worked.any_source
