use Rattle.cl_arrival_laws.proofs.Arrival as source
use Rattle.cl_arrival_laws.proofs.laws.arrival_law.Goals as goal

pub returns : goal.returns
returns c = source.arrival
