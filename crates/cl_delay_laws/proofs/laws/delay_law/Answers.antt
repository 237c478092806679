use Rattle.cl_delay_laws.proofs.Delays as source
use Rattle.cl_delay_laws.proofs.laws.delay_law.Goals as goal

pub returns : goal.returns
returns c = source.delay_law
