use Rattle.cl_rest_laws.proofs.Cases as worked
use Rattle.cl_rest_laws.proofs.worked.send_was_refused.Goals as goal

pub returns : goal.returns
returns c = worked.refused
