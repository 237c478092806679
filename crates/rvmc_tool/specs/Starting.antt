-- What `explore --split`, `--from` and `--join` answer.
use Rattle.std.specs.Prelude.{⊤, ℕ, ◌+◌, ◌≡◌, ◌≢◌, ◌⊎◌, List, Option, Some, None}
use Rattle.rv_image.specs.Text.{image_text}
use Rattle.rv_image_types.specs.declared.images.ImageParts.{ImageParts}
use Rattle.cl_machine.specs.declared.steps.Step.{Step}
use Rattle.cl_record.specs.Plans.{HasPlans}
use Rattle.cl_record.specs.declared.plans.Plan.{Plan}
use Rattle.rvmc_explore.specs.Below.{IsTurnless}
use Rattle.cl_text.specs.Text.{record_text}
use Rattle.cl_text.specs.Whole.{IsRecord}
use Rattle.rvmc_explore.specs.Splitting.{IsSplit}
use Rattle.rvmc_explore.specs.Starting.{RecordsEndBehind, TellsFrom}
use Rattle.rvmc_answers.specs.Below.{ExploreRefusal, Fault}
use Rattle.rvmc_answers.specs.Below.explored as refusal
use Rattle.rvmc_answers.specs.Below.faults
use Rattle.rvmc_starts.specs.Joining.{IsJoined, NoText, OtherText}
use Rattle.rvmc_starts.specs.Sums.{sum_of}
use Rattle.rvmc_starts.specs.declared.joining.Joined.{Joined}
use Rattle.rvmc_starts.specs.declared.starts.Start.{Start}
use Rattle.rvmc_answers.specs.Ends.{IsFaulty}

-- ---- the starts of a split

-- of a search of at most 1,000,000 states
pub record IsSplitBy (image : ImageParts) (order : List ℕ) (turns count : ℕ) (plans : List Plan) (text : List ℕ)
    (status : ℕ) : Type 0 where
  pub told : HasPlans image plans → IsSplit image order 1000000 turns count text × (status ≡ 0)
  pub refused : ¬ HasPlans image plans → IsFaulty text status

-- ---- what is told of one of them

-- it is a start of another image, or one of its turns leads nowhere
abbrev pub IsMisstarted : ImageParts → Start → Type 0
IsMisstarted image start =
    (start.image ≢ sum_of (image_text image)) ⊎ ((place : ℕ) × IsTurnless image start.harts start.turns place)

-- the text of the record of the outcome of this number in the list of what is told: of a run that begins with the start's turns
pub record IsRecordBehind (image : ImageParts) (start : Start) (states turns number : ℕ) (text : List ℕ) : Type 0 where
  pub steps : List Step
  pub recorded : RecordsEndBehind image start states turns number (Some steps)
  pub inside : IsRecord image steps
  pub spelled : text ≡ record_text image steps

-- what is told of all ends behind the start, or the record of the end of this number
abbrev pub IsToldOfStart : ImageParts → Start → (states turns : ℕ) → Option ℕ → List ℕ → ℕ → Type 0
IsToldOfStart image start states turns None text status = TellsFrom image start states turns text status
IsToldOfStart image start states turns (Some number) text status =
    IsRecordBehind image start states turns number text × (status ≡ 0)

-- why nothing is told: that, or there is no such end
abbrev pub IsNoStart : ImageParts → Start → (states turns : ℕ) → Option ℕ → ExploreRefusal → Type 0
IsNoStart image start states turns asked refusal.OtherImage = start.image ≢ sum_of (image_text image)
IsNoStart image start states turns asked (refusal.NoTurn number) =
    (place : ℕ) × (number ≡ place + 1) × IsTurnless image start.harts start.turns place
IsNoStart image start states turns asked (refusal.NoOutcome number) =
    (asked ≡ Some number) × RecordsEndBehind image start states turns number None
IsNoStart image start states turns asked other = ⊥

-- it is told, or there is a fault
pub record IsExploredFromBy (image : ImageParts) (start : Start) (states turns : ℕ) (number : Option ℕ)
    (plans : List Plan) (text : List ℕ) (status : ℕ) : Type 0 where
  pub told : HasPlans image plans
      → IsToldOfStart image start states turns number text status
      ⊎ (((refused : ExploreRefusal) × IsNoStart image start states turns number refused) × IsFaulty text status)
  pub refused : ¬ HasPlans image plans → IsFaulty text status

-- ---- what the texts tell together

pub record IsJoinedSo (bytes text : List ℕ) (status : ℕ) : Type 0 where
  pub joined : Joined
  pub is : IsJoined bytes joined
  pub text_is : text ≡ joined.text.items
  pub status_is : status ≡ joined.status

-- why nothing is told: some text isn't one, or is one of another split
abbrev pub IsUnjoined : List ℕ → ExploreRefusal → Type 0
IsUnjoined bytes (refusal.NotAText number) = NoText bytes number
IsUnjoined bytes (refusal.OtherSplit number) = OtherText bytes number
IsUnjoined bytes other = ⊥

abbrev pub IsJoinFault : List ℕ → Fault → Type 0
IsJoinFault bytes (faults.Explore refused) = IsUnjoined bytes refused
IsJoinFault bytes faults.Memory = ⊤
IsJoinFault bytes other = ⊥

-- it is told, or there is a fault
abbrev pub IsToldTogether : List ℕ → List ℕ → ℕ → Type 0
IsToldTogether bytes text status =
    IsJoinedSo bytes text status ⊎ (((refused : ExploreRefusal) × IsUnjoined bytes refused) × IsFaulty text status)
