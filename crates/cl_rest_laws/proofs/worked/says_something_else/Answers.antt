use Rattle.cl_rest_laws.proofs.Cases as worked
use Rattle.cl_rest_laws.proofs.worked.says_something_else.Goals as goal

pub returns : goal.returns
returns c = worked.says_other
