use Rattle.cl_rest_laws.proofs.Cases as worked
use Rattle.cl_rest_laws.proofs.worked.sends_to_one_that_ended.Goals as goal

pub returns : goal.returns
returns c = worked.to_ended
