use Rattle.cl_rest_laws.proofs.Cases as worked
use Rattle.cl_rest_laws.proofs.worked.each_waits_for_its_send.Goals as goal

pub returns : goal.returns
returns c = worked.both_wait
