use Rattle.cl_verdict_laws.proofs.Live as law
use Rattle.cl_verdict_laws.proofs.laws.live_law.Goals as goal

pub returns : goal.returns
returns c = law.live_law
