use Rattle.cl_arrival_laws.proofs.Arrived as source
use Rattle.cl_arrival_laws.proofs.laws.arrived_law.Goals as goal

pub returns : goal.returns
returns c = source.arrived
