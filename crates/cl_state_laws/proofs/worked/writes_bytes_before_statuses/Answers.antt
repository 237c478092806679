use Rattle.cl_state_laws.proofs.WorkedSeveral as worked
use Rattle.cl_state_laws.proofs.worked.writes_bytes_before_statuses.Goals as goal

pub returns : goal.returns
returns c = worked.overlap
