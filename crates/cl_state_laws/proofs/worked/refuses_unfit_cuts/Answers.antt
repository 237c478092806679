use Rattle.cl_state_laws.proofs.WorkedPartitions as worked
use Rattle.cl_state_laws.proofs.worked.refuses_unfit_cuts.Goals as goal

pub returns : goal.returns
returns c = worked.unfit
