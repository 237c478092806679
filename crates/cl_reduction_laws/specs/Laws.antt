-- The laws of clusters as machines.
use Rattle.cl_schedule_laws.specs.Machines.{IsMachine}
use Rattle.cl_reduction_laws.specs.Clusters.{Search, cluster_machine}

abbrev pub ClusterMachineLaw : Type 0
ClusterMachineLaw = (search : Search) → IsMachine (cluster_machine search)
