use Rattle.mp_request.proofs.Maps.{completes}
use Rattle.mp_request.proofs.laws.completion_law.Goals as goal

pub returns : goal.returns
returns c = completes
