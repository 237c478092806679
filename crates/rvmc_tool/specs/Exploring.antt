-- What `explore` answers.
use Rattle.std.specs.Prelude.{ℕ, ◌≡◌, ◌⊎◌, Bool, List, MatchResult, Option, Some, None}
use Rattle.rv_image_types.specs.declared.images.ImageParts.{ImageParts}
use Rattle.cl_machine.specs.declared.steps.Step.{Step}
use Rattle.cl_record.specs.Plans.{HasPlans}
use Rattle.cl_text.specs.Text.{record_text}
use Rattle.cl_text.specs.Whole.{IsRecord}
use Rattle.rvmc_explore.specs.Recorded.{RecordsEnd}
use Rattle.rvmc_explore.specs.Telling.{IsBegun, Tells}
use Rattle.rvmc_line.specs.declared.line.ImageCommand.{ImageCommand}
use Rattle.rvmc_line.specs.declared.line.ImageCommand.TheVariants.{Explore}
use Rattle.rvmc_answers.specs.Ends.{IsFaulty}
use Rattle.rvmc_answers.specs.Images.{image_in}
use Rattle.rvmc_answers.specs.Plans.{ByPlans, listed}

-- the text of the record of the outcome of this number in the list of what is told: of a run by the order to where nobody goes
-- on, or some ranks are stuck while others run on, or some need buffers, or runs hang if sends wait
pub record IsEndRecord (image : ImageParts) (order : List ℕ) (buffered : Bool) (states turns number : ℕ) (text : List ℕ)
    : Type 0 where
  pub steps : List Step
  pub recorded : RecordsEnd image order buffered states turns number (Some steps)
  pub inside : IsRecord image steps
  pub spelled : text ≡ record_text image steps

-- that, or a fault where there is no such outcome
abbrev pub IsRecordOfEnd : ImageParts → List ℕ → Bool → (states turns number : ℕ) → List ℕ → ℕ → Type 0
IsRecordOfEnd image order buffered states turns number text status =
    (IsEndRecord image order buffered states turns number text × (status ≡ 0))
    ⊎ (RecordsEnd image order buffered states turns number None × IsFaulty text status)

-- all that is told, or the record of the outcome of this number
abbrev pub IsToldOfSearch : ImageParts → List ℕ → Bool → (states turns : ℕ) → Option ℕ → List ℕ → ℕ → Type 0
IsToldOfSearch image order buffered states turns None text status = Tells image order buffered states turns text status
IsToldOfSearch image order buffered states turns (Some number) text status =
    IsRecordOfEnd image order buffered states turns number text status

-- what is told of a search that is cut short: ends, and ranks that need buffers, to which its order leads, by right plans
abbrev pub IsCutSearch : ImageCommand → ImageParts → List ℕ → Type 0
IsCutSearch (Explore plan states turns None buffered progress) image text =
    ByPlans image turns plan (λ plans. HasPlans image plans × IsBegun image (listed plan image.harts) buffered text)
IsCutSearch other image text = ⊥

-- the same of the bytes from which the image is taken
abbrev pub IsCutSearchOf : Bool → ImageCommand → List ℕ → List ℕ → Type 0
IsCutSearchOf source command bytes text =
    MatchResult (image_in source bytes) (λ image. IsCutSearch command image text) (λ _. ⊥)
