use Rattle.cl_reduction_laws.proofs.Clusters as source
use Rattle.cl_reduction_laws.proofs.laws.cluster_machine_law.Goals as goal

pub returns : goal.returns
returns c = source.cluster_machine_law
