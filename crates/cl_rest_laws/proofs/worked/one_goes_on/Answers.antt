use Rattle.cl_rest_laws.proofs.Cases as worked
use Rattle.cl_rest_laws.proofs.worked.one_goes_on.Goals as goal

pub returns : goal.returns
returns c = worked.one_goes_on
