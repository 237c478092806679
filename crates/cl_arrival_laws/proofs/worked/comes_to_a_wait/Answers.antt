use Rattle.cl_arrival_laws.proofs.AloneRows as worked
use Rattle.cl_arrival_laws.proofs.worked.comes_to_a_wait.Goals as goal

pub returns : goal.returns
returns c = worked.wait
