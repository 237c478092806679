-- What harts wait for at a place of a run.
use Rattle.std.specs.Prelude.{◌≤◌, ℕ, Bool, List, length}
use Rattle.cl_machine.specs.declared.steps.Step.{Step}
use Rattle.rvmc_inspect.specs.Below.{ClusterState, IsReached}
use Rattle.rv_image_types.specs.Image.{IsImage}
use Rattle.rv_image_types.specs.declared.images.ImageParts.{ImageParts}
use Rattle.rvmc_inspect.specs.Why.{IsWhy}

-- what the harts wait for in a state to which the first n steps lead, which are a run of the image; with `framed` also
-- the calls that led to where they are
pub record IsWhyAt (framed : Bool) (image : ImageParts) (steps : List Step) (n : ℕ) (text : List ℕ) : Type 0 where
  pub limits : IsImage image
  pub within : n ≤ length steps
  pub state : ClusterState
  pub reached : IsReached image steps n state
  pub told : IsWhy framed image state text
