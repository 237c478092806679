-- What `explore --from` lists: the outcomes behind one start of a split.
use Rattle.std.specs.Prelude.{ℕ, ◌≡◌, ◌≢◌, List, false, true, length, slice_get, Option, None, Some}
use Rattle.rv_image.specs.Text.{image_text}
use Rattle.rv_image_types.specs.declared.images.ImageParts.{ImageParts}
use Rattle.cl_machine.specs.declared.steps.Step.{Step}
use Rattle.cl_explore.specs.Ends.{ExploredBehind, Findings, IsBounded}
use Rattle.cl_explore.specs.Orders.{IsTurnless}
use Rattle.rvmc_starts.specs.Parts.{is_line, part_text}
use Rattle.rvmc_starts.specs.Sums.{sum_of}
use Rattle.rvmc_starts.specs.declared.parts.EndText.{EndText}
use Rattle.rvmc_starts.specs.declared.parts.Part.{Part}
use Rattle.rvmc_starts.specs.declared.starts.Start.{Start}
use Rattle.cl_explore.specs.declared.needs.Needs.TheVariants as needs
use Rattle.rvmc_explore.specs.Endless.{SaysNoneStuck, SaysUnending}
use Rattle.rvmc_explore.specs.Outcomes.{AreTold, any_need}
use Rattle.rvmc_explore.specs.Recorded.{Leads, numbered}
use Rattle.rvmc_explore.specs.Telling.{findings_status}
use Rattle.rvmc_explore.specs.declared.outcomes.Outcome.{Outcome}
use Rattle.rvmc_explore.specs.declared.starting.StartFault.{StartFault}
use Rattle.rvmc_explore.specs.declared.starting.StartFault.TheVariants.{Memory, NoTurn, OtherImage}

-- ---- one outcome

-- no newline is in it
abbrev pub IsLine : List ℕ → Type 0
IsLine bytes = is_line bytes ≡ true

-- its text is that of the outcome
pub record IsEndTold (outcome : Outcome) (end : EndText) : Type 0 where
  pub line : IsLine end.head
  pub body : end.body ≡ outcome.body.items

-- each of them, in order
pub record AreEndsTold (outcomes : List Outcome) (told : List EndText) : Type 0 where
  pub many : length told ≡ length outcomes
  pub each : (k : ℕ) (outcome : Outcome) (end : EndText) → slice_get outcomes k ≡ Some outcome
      → slice_get told k ≡ Some end → IsEndTold outcome end

-- ---- the whole

-- of this start and image, with so many states, of which so many are left
pub record IsPartOf (start : Start) (states left : ℕ) (part : Part) : Type 0 where
  pub number_is : part.number ≡ start.number
  pub count_is : part.count ≡ start.count
  pub split_is : part.split ≡ start.split
  pub image_is : part.image ≡ start.image
  pub harts_are : part.harts ≡ start.harts
  pub states_are : part.states ≡ states
  pub left_are : part.left ≡ left

-- the list of what is told of the start, of a search within these bounds. It never names ranks that need buffers
pub record IsListFrom (image : ImageParts) (start : Start) (states turns : ℕ) (told : List Outcome) : Type 0 where
  pub found : Findings
  pub known : start.image ≡ sum_of (image_text image)
  pub behind : ExploredBehind image start.harts start.turns found
  pub bounded : IsBounded states None turns found.kept found.left
  pub are : AreTold start.harts image found told
  pub no_need : any_need told ≡ false

-- each outcome that is told is one to which a run leads that begins with the start's turns, and they are all of those where
-- none is left, as it is unless the moves of as many states as are allowed were made, or a rank took more turns by itself
pub record TellsFrom (image : ImageParts) (start : Start) (states turns : ℕ) (text : List ℕ) (status : ℕ) : Type 0 where
  pub told : List Outcome
  pub listed : IsListFrom image start states turns told
  pub part : Part
  pub of : IsPartOf start (length (listed.found).kept) (listed.found).left part
  pub ends : AreEndsTold told part.ends
  pub unending_is : SaysUnending image start.harts (listed.behind).start (listed.found).left part.unending
  pub none_stuck : SaysNoneStuck image start.harts (listed.behind).start (listed.found).left (listed.found).companies
  pub status_is : status ≡ findings_status start.harts listed.found needs.Unsought false part.unending
  pub status_told : part.status ≡ status
  pub spelled : text ≡ part_text part

-- the steps are a run to the outcome of this number in that list, and there are none where it has fewer
pub record RecordsEndBehind (image : ImageParts) (start : Start) (states turns number : ℕ) (steps : Option (List Step))
    : Type 0 where
  pub told : List Outcome
  pub listed : IsListFrom image start states turns told
  pub leads : Leads image start.harts (listed.found).left (numbered told number) steps

-- ---- why not

abbrev pub StartFaultHolds : ImageParts → Start → StartFault → Type 0
StartFaultHolds image start Memory = Unit {0}
StartFaultHolds image start OtherImage = start.image ≢ sum_of (image_text image)
StartFaultHolds image start (NoTurn place) = IsTurnless image start.harts start.turns place
