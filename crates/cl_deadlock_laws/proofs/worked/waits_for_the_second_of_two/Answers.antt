use Rattle.cl_deadlock_laws.proofs.Cases as worked
use Rattle.cl_deadlock_laws.proofs.worked.waits_for_the_second_of_two.Goals as goal

pub returns : goal.returns
returns c = worked.wait_for_second
