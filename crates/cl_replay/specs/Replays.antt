-- Where the first steps of a list lead.
use Rattle.std.specs.Prelude.{ℕ, List, take}
use Rattle.rv_image_types.specs.declared.images.ImageParts.{ImageParts}
use Rattle.cl_machine.specs.Cluster.{Cluster, IsRun, loaded_cluster}
use Rattle.cl_machine.specs.declared.steps.Step.{Step}

-- the first n steps are a run of the image
abbrev pub IsRunUpTo : ImageParts → List Step → ℕ → Type 0
IsRunUpTo image steps n = (end : Cluster) × IsRun (loaded_cluster image) (take n steps) end
