use Rattle.mp_request.proofs.CallLaws.{nothing}
use Rattle.mp_request.proofs.call_laws.nothing_law.Goals as goal

pub returns : goal.returns
returns c = nothing
