use Rattle.cl_arrival_laws.proofs.Writes as source
use Rattle.cl_arrival_laws.proofs.laws.write_law.Goals as goal

pub returns : goal.returns
returns c = source.writes
