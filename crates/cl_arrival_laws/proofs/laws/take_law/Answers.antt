use Rattle.cl_arrival_laws.proofs.Takes as source
use Rattle.cl_arrival_laws.proofs.laws.take_law.Goals as goal

pub returns : goal.returns
returns c = source.taken
