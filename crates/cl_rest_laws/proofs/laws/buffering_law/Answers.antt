use Rattle.cl_rest_laws.proofs.Buffering as law
use Rattle.cl_rest_laws.proofs.laws.buffering_law.Goals as goal

pub returns : goal.returns
returns c = law.buffering_law
