-- Where the replay of the first steps of a list leads, or breaks off.
use Rattle.std.specs.Prelude.{ℕ, List, take}
use Rattle.rv_image_types.specs.declared.images.ImageParts.{ImageParts}
use Rattle.cl_machine.specs.Cluster.{Cluster, IsRun, loaded_cluster}
use Rattle.cl_machine.specs.declared.steps.Step.{Step}
use Rattle.cl_replay.specs.declared.states.ClusterState.{ClusterState}
use Rattle.cl_replay.specs.States.{ClusterStandsFor}

-- the first n steps are a run of the image, and the state is the cluster to which they lead
pub record IsReached (image : ImageParts) (steps : List Step) (n : ℕ) (state : ClusterState) : Type 0 where
  pub cluster : Cluster
  pub run : IsRun (loaded_cluster image) (take n steps) cluster
  pub stands : ClusterStandsFor image state cluster
