use Rattle.cl_rest_laws.proofs.Cases as worked
use Rattle.cl_rest_laws.proofs.worked.each_sends_first.Goals as goal

pub returns : goal.returns
returns c = worked.send_first
