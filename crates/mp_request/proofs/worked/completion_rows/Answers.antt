use Rattle.mp_request.proofs.Cases as worked
use Rattle.mp_request.proofs.worked.completion_rows.Goals as goal

pub returns : goal.returns
returns c = worked.completion
