use Rattle.cl_way_laws.proofs.Told as source
use Rattle.cl_way_laws.proofs.laws.way_cluster_law.Goals as goal

pub returns : goal.returns
returns c = source.way_cluster_law
