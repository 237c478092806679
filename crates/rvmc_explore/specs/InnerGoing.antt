-- A node from which no run ends, while it is looked for and its lines are written.
use Rattle.std.specs.Prelude.{ℕ, ◌≡◌, ◌<◌, ◌++◌, false, List, length, slice_get, Option, None, Some}
use Rattle.rv_image_types.specs.declared.images.ImageParts.{ImageParts}
use Rattle.cl_explore.specs.Ends.{ExploredFrom, Findings}
use Rattle.cl_explore.specs.declared.kept.KeptNode.{KeptNode}
use Rattle.cl_moves.specs.Standing.{by_order}
use Rattle.cl_order_laws.specs.Closed.{Node}
use Rattle.cl_outcome_laws.specs.Unending.{NeverEnds}
use Rattle.cl_replay.specs.declared.states.ClusterState.{ClusterState}
use Rattle.rvmc_explore.specs.Endless.{SaysUnendingOf}
use Rattle.rvmc_explore.specs.HangTexts.{going_text}
use Rattle.rvmc_explore.specs.There.{IsKeptState}

-- ---- the node

-- no turns lead to an end from the node of this number
abbrev pub NeverEndsAt : Findings → ℕ → Type 0
NeverEndsAt found i =
    (image : ImageParts) (order : List ℕ) (start : Node) → (explored : ExploredFrom image order start found)
    → (node : Node) × (slice_get explored.nodes i ≡ Some node) × NeverEnds (by_order order) node

-- such a node; and where none is told and no state is left, each run can still end
abbrev pub TellsEndless : Findings → Option ℕ → Type 0
TellsEndless found None = SaysUnendingOf found false
TellsEndless found (Some i) = (i < length found.kept) × NeverEndsAt found i

-- ---- its lines

abbrev pub IsInside : List KeptNode → Option ℕ → Type 0
IsInside kept None = Unit {0}
IsInside kept (Some node) = node < length kept

-- the lines of the node of this number
pub record IsGoingAt (image : ImageParts) (order : List ℕ) (kept : List KeptNode) (node : ℕ) (text : List ℕ) : Type 0 where
  pub state : ClusterState
  pub is : IsKeptState kept node state
  pub spelled : text ≡ going_text image order state

-- they stand behind the text, if there is such a node
abbrev pub AddsGoings : ImageParts → List ℕ → List KeptNode → Option ℕ → List ℕ → List ℕ → Type 0
AddsGoings image order kept None old new = new ≡ old
AddsGoings image order kept (Some node) old new =
    (text : List ℕ) × IsGoingAt image order kept node text × (new ≡ old ++ text)
