-- What is run on one thread.
use Rattle.std.specs.Prelude.{ℕ, List}
use Rattle.rv_image_types.specs.declared.images.ImageParts.{ImageParts}
use Rattle.cl_record.specs.declared.plans.Plan.{Plan}

-- an image, the plans of its ranks and their order
pub record Setup : Type 0 where
  pub image : ImageParts
  pub plans : List Plan
  pub order : List ℕ
