use Rattle.mp_request.proofs.CallLaws.{together}
use Rattle.mp_request.proofs.call_laws.test_law.Goals as goal

pub returns : goal.returns
returns c = together
