use Rattle.cl_arrival_laws.proofs.Readies as source
use Rattle.cl_arrival_laws.proofs.laws.ready_law.Goals as goal

pub returns : goal.returns
returns c = source.made
