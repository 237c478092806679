use Rattle.cl_arrival_laws.proofs.Prefixes as source
use Rattle.cl_arrival_laws.proofs.laws.prefix_law.Goals as goal

pub returns : goal.returns
returns c = source.prefix
