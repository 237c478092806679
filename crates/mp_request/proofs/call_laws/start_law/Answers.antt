use Rattle.mp_request.proofs.CallLaws.{round}
use Rattle.mp_request.proofs.call_laws.start_law.Goals as goal

pub returns-clause-round : goal.returns-clause-round
returns-clause-round c = round
