use Rattle.cl_state_laws.proofs.WorkedSeveral as worked
use Rattle.cl_state_laws.proofs.worked.refuses_unfit_messages.Goals as goal

pub returns : goal.returns
returns c = worked.unfit_row
