use Rattle.rvmc_protocol.proofs.Spelled as law
use Rattle.rvmc_protocol.proofs.requests.laws.spelled_law.Goals as goal

pub returns : goal.returns
returns c = law.spelled_law
