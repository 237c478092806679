use Rattle.cl_rest_laws.proofs.Cases as worked
use Rattle.cl_rest_laws.proofs.worked.waits_for_one_of_two.Goals as goal

pub returns : goal.returns
returns c = worked.one_of_two
