-- A step that takes what stands in a box, and the box behind it.
use Rattle.std.specs.Prelude.{ℕ, ◌≡◌, ◌<◌, List, length, slice_get, false, Some}
use Rattle.rv_image_types.specs.declared.images.ImageParts.{ImageParts}
use Rattle.part_box.specs.declared.settled.Settled.{Settled}
use Rattle.cl_state.specs.declared.asking.Ask.{Ask}
use Rattle.cl_trace.specs.declared.events.Kind.{Kind}
use Rattle.cl_machine.specs.Cluster.{Cluster}
use Rattle.cl_machine.specs.declared.steps.Step.{Step}
use Rattle.test_cluster.specs.Checks.{Asks}

-- a Take of this partition of a link of the image
pub record TakesFrom (image : ImageParts) (cluster : Cluster) (e : Step) (link part : ℕ) : Type 0 where
  pub takes : e.kind ≡ Kind.Take
  pub looks : Asks cluster e (Ask.Look link part)
  pub link_there : link < length image.links
  pub part_there : part < 16

-- nothing stands in its box
pub record IsVacant (boxes : List (List Settled)) (link part : ℕ) : Type 0 where
  pub parts : List Settled
  pub left : Settled
  pub link_is : slice_get boxes link ≡ Some parts
  pub part_is : slice_get parts part ≡ Some left
  pub empty : left.full ≡ false
