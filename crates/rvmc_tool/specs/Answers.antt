-- What each command answers: the text on standard output, and the status.
use Rattle.std.specs.Prelude.{ℕ, Bool, true, false, List, MatchResult, Option, Some}
use Rattle.cl_record.specs.Plans.{HasPlans}
use Rattle.cl_record.specs.declared.plans.Plan.{Plan}
use Rattle.rv_image_types.specs.Image.{in_version_two}
use Rattle.rv_image.specs.Text.{image_text}
use Rattle.rv_image_types.specs.declared.images.ImageParts.{ImageParts}
use Rattle.rvmc_line.specs.declared.line.CommandLine.{CommandLine}
use Rattle.rvmc_line.specs.declared.line.CommandLine.TheVariants.{Join, OfImage, OfRecord, Session, WordSession}
use Rattle.rvmc_line.specs.declared.line.ImageCommand.{ImageCommand}
use Rattle.rvmc_line.specs.declared.line.ImageCommand.TheVariants.{Asm, Dis, Explore, ExploreFrom, One, OneUntilStuck, Run, RunUntilStuck, Split}
use Rattle.rvmc_answers.specs.Below.{listing}
use Rattle.rvmc_answers.specs.Ends.{IsDone, IsFaulty}
use Rattle.rvmc_tool.specs.Exploring.{IsToldOfSearch}
use Rattle.rvmc_answers.specs.Images.{image_in}
use Rattle.rvmc_answers.specs.Plans.{ByPlans, listed}
use Rattle.rvmc_views.specs.Records.{SaysOfRecord}
use Rattle.rvmc_tool.specs.Sessions.{SaysOfSession, SaysOfWordSession}
use Rattle.rvmc_tool.specs.Starting.{IsExploredFromBy, IsSplitBy, IsToldTogether}
use Rattle.rvmc_starts.specs.declared.starts.Start.{Start}
use Rattle.rvmc_runs.specs.Runs.{IsOne, IsOneUntilStuck, IsRunAnswer, IsThreadsUntilStuck}

-- ---- all orders

-- the ends of all orders of ranks' turns, if the plan is right: else there is a fault
pub record IsExploredBy (image : ImageParts) (order : List ℕ) (buffered : Bool) (states turns : ℕ) (number : Option ℕ)
    (plans : List Plan) (text : List ℕ) (status : ℕ) : Type 0 where
  pub told : HasPlans image plans → IsToldOfSearch image order buffered states turns number text status
  pub refused : ¬ HasPlans image plans → IsFaulty text status

-- `explore`: each rank's harts take turns in this order
abbrev pub IsExplored : ImageParts → Option (List ℕ) → Bool → (states turns : ℕ) → Option ℕ → List ℕ → ℕ → Type 0
IsExplored image harts buffered states turns number text status =
    ByPlans image turns harts
    (λ plans. IsExploredBy image (listed harts image.harts) buffered states turns number plans text status)

-- `explore --split`: starts, if the plan is right
abbrev pub IsSplitOf : ImageParts → Option (List ℕ) → (count turns : ℕ) → List ℕ → ℕ → Type 0
IsSplitOf image harts count turns text status =
    ByPlans image turns harts (λ plans. IsSplitBy image (listed harts image.harts) turns count plans text status)

-- `explore --from`: each rank's harts take turns in the start's order
abbrev pub IsExploredFrom : ImageParts → Start → (states turns : ℕ) → Option ℕ → List ℕ → ℕ → Type 0
IsExploredFrom image start states turns number text status =
    ByPlans image turns (Some start.harts) (λ plans. IsExploredFromBy image start states turns number plans text status)

-- ---- the commands

-- one case a command, of the image that it takes
abbrev pub Makes : ImageCommand → ImageParts → List ℕ → ℕ → Type 0
Makes (Asm false) image text status = IsDone (image_text image) text status
Makes (Asm true) image text status = IsDone (image_text (in_version_two image)) text status
Makes Dis image text status = IsDone (listing image) text status
Makes (Run budget plan lead written) image text status = IsRunAnswer image budget plan written text status
Makes (RunUntilStuck budget plan lead written) image text status =
    IsThreadsUntilStuck image budget plan written text status
Makes (One budget plan order written) image text status = IsOne image budget plan order written text status
Makes (OneUntilStuck budget plan order written) image text status =
    IsOneUntilStuck image budget plan order written text status
Makes (Explore plan states turns number buffered progress) image text status =
    IsExplored image plan buffered states turns number text status
Makes (Split plan count turns progress) image text status = IsSplitOf image plan count turns text status
Makes (ExploreFrom start states turns number buffered progress) image text status =
    IsExploredFrom image start states turns number text status

-- what a command says that takes an image from the bytes, or with `source` a source
abbrev pub SaysOfImage : Bool → ImageCommand → List ℕ → List ℕ → ℕ → Type 0
SaysOfImage source command bytes text status =
    MatchResult (image_in source bytes) (λ image. Makes command image text status) (λ _. IsFaulty text status)

-- what a command line says of the bytes that are read
abbrev pub Says : CommandLine → List ℕ → List ℕ → ℕ → Type 0
Says (OfImage source command) bytes text status = SaysOfImage source command bytes text status
Says (OfRecord command) bytes text status = SaysOfRecord command bytes text status
Says (Session rank) bytes text status = SaysOfSession rank bytes text status
Says WordSession bytes text status = SaysOfWordSession bytes text status
Says Join bytes text status = IsToldTogether bytes text status

-- ---- which fault is told

-- threads are started: the plan is right
abbrev pub HasThreads : ImageCommand → ImageParts → Type 0
HasThreads (Run budget plan lead written) image = ByPlans image budget plan (HasPlans image)
HasThreads (RunUntilStuck budget plan lead written) image = ByPlans image budget plan (HasPlans image)
HasThreads other image = ⊥
