use Rattle.cl_rest_laws.proofs.Cases as worked
use Rattle.cl_rest_laws.proofs.worked.wait_says_that_it_is_buffered.Goals as goal

pub returns : goal.returns
returns c = worked.says_buffered_at_wait
