-- The starts of a split.
use Rattle.std.specs.Prelude.{ℕ, ◌+◌, ◌<◌, ◌≤◌, ◌≡◌, ◌⊎◌, List, ◌++◌, ◌∷◌, [], length, map, slice_get, Option, Some, None}
use Rattle.std.specs.List.{flat_map}
use Rattle.rv_image.specs.Text.{image_text}
use Rattle.rv_image_types.specs.declared.images.ImageParts.{ImageParts}
use Rattle.cl_machine.specs.declared.steps.Step.{Step}
use Rattle.cl_order_laws.specs.Closed.{Node}
use Rattle.cl_explore.specs.Ends.{AreTurnsTo, Explored, Findings, IsBounded}
use Rattle.cl_explore.specs.How.{plainly}
use Rattle.cl_explore.specs.Orders.{IsOrderedWay}
use Rattle.cl_explore.specs.declared.kept.KeptNode.{KeptNode}
use Rattle.rvmc_report.specs.Report.{newline}
use Rattle.rvmc_starts.specs.Starts.{start_text}
use Rattle.rvmc_starts.specs.Sums.{sum_of}
use Rattle.rvmc_starts.specs.declared.starts.Start.{Start}
use Rattle.rvmc_explore.specs.declared.splitting.Common.{Common}

-- ---- where they are

-- a number of a node that is left, or of an end
abbrev pub IsStartNumber : ℕ → ℕ → List ℕ → ℕ → Type 0
IsStartNumber nodes left ends i =
    ((nodes ≤ i + left) × (i < nodes)) ⊎ ((k : ℕ) × (slice_get ends k ≡ Some i))

-- each of them is among the numbers
abbrev pub HasEachStart : ℕ → ℕ → List ℕ → List ℕ → Type 0
HasEachStart nodes left ends numbers =
    (i : ℕ) → IsStartNumber nodes left ends i → (k : ℕ) × (slice_get numbers k ≡ Some i)

-- the numbers of the last nodes stand behind the others
abbrev pub AddsLeft : ℕ → ℕ → List ℕ → List ℕ → Type 0
AddsLeft nodes left old new =
    (more : List ℕ) × (new ≡ old ++ more)
    × ((k i : ℕ) → slice_get more k ≡ Some i → i < nodes)
    × ((i : ℕ) → nodes ≤ i + left → i < nodes → (k : ℕ) × (slice_get more k ≡ Some i))

-- the number of a node stands behind the others, if there is one
abbrev pub AddsNowhere : Option ℕ → List ℕ → List ℕ → Type 0
AddsNowhere None old new = new ≡ old
AddsNowhere (Some node) old new = new ≡ old ++ node ∷ []

-- ---- what they are

-- the start of this number, whose turns lead to the node of another
pub record IsStartAt (kept : List KeptNode) (common : Common) (number node : ℕ) (start : Start) : Type 0 where
  pub number_is : start.number ≡ number
  pub count_is : start.count ≡ common.count
  pub image_is : start.image ≡ common.image
  pub split_is : start.split ≡ 0
  pub harts_are : start.harts ≡ common.order.now
  pub leads : AreTurnsTo kept node start.turns

-- one for each of these nodes, numbered from 1
pub record AreStartsAt (kept : List KeptNode) (common : Common) (numbers : List ℕ) (starts : List Start) : Type 0 where
  pub many : length starts ≡ length numbers
  pub each : (k : ℕ) (start : Start) → slice_get starts k ≡ Some start
      → (node : ℕ) × (slice_get numbers k ≡ Some node) × IsStartAt kept common (k + 1) node start

abbrev pub with_split : ℕ → Start → Start
with_split split start = record start { split = split }

-- ---- the text

abbrev pub start_line : Start → List ℕ
start_line start = start_text start ++ newline

-- by what a split is known again: its starts, of which that isn't known yet
abbrev pub split_sum : List Start → ℕ
split_sum starts = (sum_of (flat_map start_line starts)).digest

-- of this image and these harts, numbered from 1, and of one split
pub record AreStartsOf (image : ImageParts) (order : List ℕ) (split : ℕ) (starts : List Start) : Type 0 where
  pub known : split ≡ split_sum (map (with_split 0) starts)
  pub each : (k : ℕ) (start : Start) → slice_get starts k ≡ Some start
      → (start.number ≡ k + 1) × (start.count ≡ length starts) × (start.image ≡ sum_of (image_text image))
      × (start.split ≡ split) × (start.harts ≡ order)

-- each node that is left, and each end that was found, is where the turns of a start lead
abbrev pub Reach : ImageParts → List ℕ → List Node → List ℕ → ℕ → List Start → Type 0
Reach image order nodes ends left starts =
    (i : ℕ) (node : Node) → slice_get nodes i ≡ Some node → IsStartNumber (length nodes) left ends i
    → (k : ℕ) × (start : Start) × (steps : List Step) × (slice_get starts k ≡ Some start)
    × IsOrderedWay image order start.turns steps node

-- the starts of a search that went on until so many nodes were left, or as far as it might, without calls that are made at
-- once
pub record IsSplit (image : ImageParts) (order : List ℕ) (states turns least : ℕ) (text : List ℕ) : Type 0 where
  pub found : Findings
  pub explored : Explored image order found
  pub plain : explored.how ≡ plainly
  pub most : IsBounded states (Some least) turns found.kept found.left
  pub starts : List Start
  pub split : ℕ
  pub are : AreStartsOf image order split starts
  pub reach : Reach image order explored.nodes found.ends found.left starts
  pub spelled : text ≡ flat_map start_line starts
