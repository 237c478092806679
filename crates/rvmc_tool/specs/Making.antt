-- What the calls behind each command answer, and their faults.
use Rattle.std.specs.Prelude.{ℕ, Bool, true, false, List, MatchResult, Some}
use Rattle.cl_record.specs.Plans.{ArePlans, HasPlans}
use Rattle.cl_text.specs.Reading.{reading_record}
use Rattle.rv_image_types.specs.declared.images.ImageParts.{ImageParts}
use Rattle.rvmc_line.specs.declared.line.CommandLine.{CommandLine}
use Rattle.rvmc_line.specs.declared.line.CommandLine.TheVariants.{Join, OfImage, OfRecord, Session, WordSession}
use Rattle.rvmc_line.specs.declared.line.ImageCommand.{ImageCommand}
use Rattle.rvmc_line.specs.declared.line.ImageCommand.TheVariants.{Explore, ExploreFrom, One, OneUntilStuck, Run, RunUntilStuck, Split}
use Rattle.rvmc_answers.specs.Below.{ExploreRefusal, Fault}
use Rattle.rvmc_answers.specs.Plans.{ByPlans, listed}
use Rattle.rvmc_tool.specs.Answers.{HasThreads}
use Rattle.rvmc_answers.specs.Images.{image_in}
use Rattle.rvmc_views.specs.Records.{record_part}
use Rattle.rvmc_tool.specs.Starting.{IsJoinFault, IsNoStart}
use Rattle.rvmc_answers.specs.Taking.{IsFaultIn}
use Rattle.rvmc_tool.specs.Unexplored.{IsNoEnd}
use Rattle.rvmc_answers.specs.declared.answers.End.{End}
use Rattle.rvmc_answers.specs.Making.{IsMakingFault, IsWhole}
use Rattle.rvmc_views.specs.Faults.{HasTold, IsReadFault}

-- ---- how an answer ends

-- how it ends: what is told of a record may be cut short
abbrev pub EndsSo : CommandLine → List ℕ → List ℕ → End → Type 0
EndsSo (OfImage source command) bytes text end = IsWhole end
EndsSo (OfRecord command) bytes text end = HasTold command bytes text end
EndsSo (Session rank) bytes text end = ⊥
EndsSo WordSession bytes text end = ⊥
EndsSo Join bytes text end = IsWhole end

-- ---- which fault is told

-- whether a command of an image needs threads
abbrev pub runs_threads : ImageCommand → Bool
runs_threads (Run budget plan lead written) = true
runs_threads (RunUntilStuck budget plan lead written) = true
runs_threads other = false

-- whether a command needs threads
abbrev pub needs_threads : CommandLine → Bool
needs_threads (OfImage source command) = runs_threads command
needs_threads (OfRecord command) = false
needs_threads (Session rank) = false
needs_threads WordSession = false
needs_threads Join = false

-- the plan is wrong, or the order of the ranks
abbrev pub IsMisplanned : ImageCommand → ImageParts → Type 0
IsMisplanned (Run budget plan lead written) image =
    ByPlans image budget plan (λ plans. ¬ (HasPlans image plans))
IsMisplanned (RunUntilStuck budget plan lead written) image =
    ByPlans image budget plan (λ plans. ¬ (HasPlans image plans))
IsMisplanned (One budget plan order written) image =
    ByPlans image budget plan (λ plans. ¬ (ArePlans image plans (listed order image.ranks)))
IsMisplanned (OneUntilStuck budget plan order written) image =
    ByPlans image budget plan (λ plans. ¬ (ArePlans image plans (listed order image.ranks)))
IsMisplanned (Explore plan states turns number buffered progress) image =
    ByPlans image turns plan (λ plans. ¬ (HasPlans image plans))
IsMisplanned (Split plan count turns progress) image =
    ByPlans image turns plan (λ plans. ¬ (HasPlans image plans))
IsMisplanned (ExploreFrom start states turns number buffered progress) image =
    ByPlans image turns (Some start.harts) (λ plans. ¬ (HasPlans image plans))
IsMisplanned other image = ⊥

-- by a right plan there is no such end, or nothing is told of the start
abbrev pub IsUnexplored : ImageCommand → ImageParts → ExploreRefusal → Type 0
IsUnexplored (Explore plan states turns number buffered progress) image refusal =
    ByPlans image turns plan (λ plans. HasPlans image plans × IsNoEnd image (listed plan image.harts) buffered states turns
    number refusal)
IsUnexplored (ExploreFrom start states turns number buffered progress) image refusal =
    ByPlans image turns (Some start.harts) (λ plans. HasPlans image plans × IsNoStart image start states turns number refusal)
IsUnexplored other image refusal = ⊥

-- of an image
abbrev pub RefusesImage : ImageCommand → ImageParts → Fault → Type 0
RefusesImage command image fault =
    IsMakingFault (IsMisplanned command image) (HasThreads command image) (IsUnexplored command image) fault

-- of the bytes that are read: their own fault, or else one of their image
abbrev pub IsImageFault : Bool → ImageCommand → List ℕ → Fault → Type 0
IsImageFault source command bytes fault =
    MatchResult (image_in source bytes) (λ image. RefusesImage command image fault)
    (λ _. IsFaultIn (image_in source bytes) fault)

-- of what a command takes from the bytes
abbrev pub IsFaultOf : CommandLine → List ℕ → Fault → Type 0
IsFaultOf (OfImage source command) bytes fault = IsImageFault source command bytes fault
IsFaultOf (OfRecord command) bytes fault = IsReadFault command (reading_record (record_part command bytes)) fault
IsFaultOf (Session rank) bytes fault = ⊥
IsFaultOf WordSession bytes fault = ⊥
IsFaultOf Join bytes fault = IsJoinFault bytes fault
