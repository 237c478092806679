-- What was printed before memory was refused, beside what a search lists that left no state.
use Rattle.std.specs.Prelude.{ℕ, ◌≡◌, ◌⊎◌, Bool, true, List, slice_get, Some}
use Rattle.rv_image_types.specs.Image.{IsImage}
use Rattle.rv_image_types.specs.declared.images.ImageParts.{ImageParts}
use Rattle.cl_moves.specs.Standing.{IsWay, by_order, first_node}
use Rattle.cl_order_laws.specs.Closed.{Node}
use Rattle.cl_rest_laws.specs.Buffering.{NeedBuffers}
use Rattle.rvmc_explore.specs.Outcomes.{HasBody, IsListOf}
use Rattle.rvmc_explore.specs.Telling.{IsBegun, Tells}
use Rattle.rvmc_explore.specs.declared.outcomes.Outcome.{Outcome}

-- the outcome's turns lead by the order to where these ranks need buffers
pub record LeadsToNeed (image : ImageParts) (order : List ℕ) (outcome : Outcome) : Type 0 where
  pub node : Node
  pub way : IsWay (by_order order) (first_node image) outcome.way node
  pub ranks : List ℕ
  pub need : NeedBuffers ranks node.cluster

-- of one image and one order, whatever the bounds
pub record BegunLaw : Type 0 where
  -- the text of each outcome that was printed is in the list of each search that left no state, or it is of ranks that need buffers
  pub each : (image : ImageParts) (order : List ℕ) (buffered copied : Bool) (states turns : ℕ) (text : List ℕ)
      (other : List Outcome) → IsImage image → (begun : IsBegun image order buffered text)
      → (listed : IsListOf image order copied states turns other) → (listed.found).left ≡ 0
      → (k : ℕ) (outcome : Outcome) → slice_get begun.told k ≡ Some outcome
      → HasBody other outcome.body.items ⊎ LeadsToNeed image order outcome
  -- it is in the list if every send was buffered, or if sends might wait in that search
  pub listed : (image : ImageParts) (order : List ℕ) (buffered copied : Bool) (states turns : ℕ) (text other : List ℕ)
      (status : ℕ) → IsImage image → (begun : IsBegun image order buffered text)
      → (one : Tells image order copied states turns other status) → (((one.listed).found).left ≡ 0)
      → (buffered ≡ true) ⊎ (((one.listed).found).may_wait ≡ true)
      → (k : ℕ) (outcome : Outcome) → slice_get begun.told k ≡ Some outcome
      → HasBody one.told outcome.body.items
