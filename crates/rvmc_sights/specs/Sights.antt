-- What is seen of the steps of a record.
use Rattle.std.specs.Prelude.{ℕ, ◌≡◌, List, slice_get, take, Some}
use Rattle.rv_image_types.specs.declared.images.ImageParts.{ImageParts}
use Rattle.cl_state.specs.Rank.{Rank}
use Rattle.cl_machine.specs.Cluster.{Cluster, IsRun, IsStep, loaded_cluster}
use Rattle.cl_machine.specs.declared.steps.Step.{Step}
use Rattle.rvmc_sights.specs.Lines.{Sight, sight_of}

-- step n of a run of the image, and its rank in the clusters before and after it
pub record IsSightAt (image : ImageParts) (steps : List Step) (n : ℕ) (sight : Sight) : Type 0 where
  pub old : Cluster
  pub run : IsRun (loaded_cluster image) (take n steps) old
  pub step : Step
  pub there : slice_get steps n ≡ Some step
  pub new : Cluster
  pub leads : IsStep old step new
  pub before : Rank
  pub after : Rank
  pub before_there : slice_get old.ranks step.rank ≡ Some before
  pub after_there : slice_get new.ranks step.rank ≡ Some after
  pub is : sight ≡ sight_of n step before after
