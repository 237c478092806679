-- What `run` and `one` answer: the text of a run that went by its plans, or until nobody could go on, and its status.
use Rattle.std.specs.Prelude.{◌≡◌, ◌⊎◌, ◌++◌, ℕ, Bool, false, List, codes, length, Option}
use Rattle.cl_ending.specs.Below.{IsArrivedRun}
use Rattle.cl_ending.specs.DeadEnds.{IsFreeEnd, IsNotStuckAt, IsStuckAt}
use Rattle.cl_machine.specs.Merge.{IsMerge}
use Rattle.cl_machine.specs.declared.steps.Step.{Step}
use Rattle.cl_record.specs.Plans.{ArePlans, HasPlans}
use Rattle.cl_record.specs.Records.{steps_in}
use Rattle.cl_record.specs.declared.plans.Plan.{Plan}
use Rattle.cl_record.specs.declared.records.Record.{Record}
use Rattle.cl_run.specs.Cuts.{IsEndedRun}
use Rattle.cl_run.specs.Runs.{IsOneRun}
use Rattle.cl_text.specs.Text.{record_text}
use Rattle.cl_text.specs.Whole.{IsRecord}
use Rattle.cl_threads.specs.Cuts.{IsEndedThreadRun, IsSomeTold}
use Rattle.cl_threads.specs.Runs.{IsThreadRun}
use Rattle.rv_image_types.specs.declared.images.ImageParts.{ImageParts}
use Rattle.rvmc_line.specs.declared.line.Written.{Written}
use Rattle.rvmc_line.specs.declared.line.Written.TheVariants as written
use Rattle.rvmc_answers.specs.Below.{rank_ends, report, status_of, told_report}
use Rattle.rvmc_answers.specs.Ends.{IsFaulty}
use Rattle.rvmc_answers.specs.Plans.{ByPlans, listed}
use Rattle.rvmc_answers.specs.Whys.{IsWhyAt}

-- ---- runs to the end of their plans

-- the text of a record: of the steps of all its ranks in order of their stamps, which are inside the limits of what can
-- be read again
pub record IsRecordOf (image : ImageParts) (left : Record) (text : List ℕ) : Type 0 where
  pub steps : List Step
  pub sorted : IsMerge (steps_in left) steps
  pub inside : IsRecord image steps
  pub spelled : text ≡ record_text image steps

-- what they wait for where a record ends: where its steps lead, in order of their stamps; with `framed` also the calls that
-- led to where they are
pub record IsWhyOf (framed : Bool) (image : ImageParts) (left : Record) (text : List ℕ) : Type 0 where
  pub steps : List Step
  pub sorted : IsMerge (steps_in left) steps
  pub why : IsWhyAt framed image steps (length steps) text

-- the report of a record, and that behind it
pub record IsReportWithWhy (framed : Bool) (image : ImageParts) (left : Record) (text : List ℕ) : Type 0 where
  pub why : List ℕ
  pub told : IsWhyOf framed image left why
  pub spelled : text ≡ report (rank_ends left) ++ why

-- the report of a record, or with `--record` its own text; with `--why` or `--frames` more stands behind the report
abbrev pub IsTextOf : Written → ImageParts → Record → List ℕ → Type 0
IsTextOf written.Report image left text = text ≡ report (rank_ends left)
IsTextOf written.Record image left text = IsRecordOf image left text
IsTextOf (written.Why framed) image left text = IsReportWithWhy framed image left text

-- what is told of the record that a run leaves, and the status of the run
pub record IsTold (Leaves : Record → Type 0) (IsText : Record → List ℕ → Type 0) (text : List ℕ) (status : ℕ)
    : Type 0 where
  pub left : Record
  pub run : Leaves left
  pub told : IsText left text
  pub status_is : status ≡ status_of (rank_ends left)

-- a run, if its plans are right: else there is a fault
pub record IsRunBy (Right : Type 0) (Leaves : Record → Type 0) (IsText : Record → List ℕ → Type 0) (text : List ℕ)
    (status : ℕ) : Type 0 where
  pub told : Right → IsTold Leaves IsText text status
  pub refused : ¬ Right → IsFaulty text status

-- what ranks leave that ran on threads of their own: it fits together, and its events, in order of their stamps, are a
-- run of the written machine that ends in it. What is reported arrived has come from the sender's phase of that number
pub record IsLeftByThreads (image : ImageParts) (plans : List Plan) (left : Record) : Type 0 where
  pub apart : IsThreadRun image plans left
  pub arrived : IsArrivedRun image left

-- what ranks leave that ran on one thread, in this order: their events are a run of the written machine, as they were
-- taken and in order of their stamps, and it ends in the record. The same has arrived
pub record IsLeftByOne (image : ImageParts) (plans : List Plan) (order : List ℕ) (left : Record) : Type 0 where
  pub turns : IsOneRun image plans order left
  pub arrived : IsArrivedRun image left

-- `run`: each rank on a thread of its own
abbrev pub IsRunAnswer : ImageParts → ℕ → Option (List ℕ) → Written → List ℕ → ℕ → Type 0
IsRunAnswer image budget harts written text status =
    ByPlans image budget harts (λ plans.
    IsRunBy (HasPlans image plans) (IsLeftByThreads image plans) (IsTextOf written image) text status)

-- `one`: all ranks on one thread, in this order
abbrev pub IsOne : ImageParts → ℕ → Option (List ℕ) → Option (List ℕ) → Written → List ℕ → ℕ → Type 0
IsOne image budget harts ranks written text status =
    ByPlans image budget harts (λ plans.
    let order = listed ranks image.ranks in
    IsRunBy (ArePlans image plans order) (IsLeftByOne image plans order) (IsTextOf written image) text status)

-- ---- a run that ends where nobody can go on

-- the report of a record whose ranks were told to stop, of each of which it says this word, and what its harts wait for
pub record IsToldReport (word : List ℕ) (framed : Bool) (image : ImageParts) (budget : ℕ) (left : Record) (text : List ℕ)
    : Type 0 where
  pub why : List ℕ
  pub told : IsWhyOf framed image left why
  pub spelled : text ≡ told_report word budget (rank_ends left) ++ why

-- with `--frames` also the calls are told that led to where harts are
abbrev pub is_framed : Written → Bool
is_framed (written.Why framed) = framed
is_framed other = false

-- or with `--record` the text of the record, as of any run
abbrev pub IsToldTextOf : List ℕ → Written → ImageParts → ℕ → Record → List ℕ → Type 0
IsToldTextOf word written.Record image budget left text = IsRecordOf image left text
IsToldTextOf word other image budget left text = IsToldReport word (is_framed other) image budget left text

-- of ranks in a deadlock
abbrev pub IsStuckTextOf : Written → ImageParts → ℕ → Record → List ℕ → Type 0
IsStuckTextOf written image budget left text = IsToldTextOf (codes "stuck") written image budget left text

-- the run came to the end of its plans and to no deadlock of all that have a running or a waiting hart; or to one
abbrev pub IsToldOfEither : ImageParts → ℕ → List Plan → List ℕ → Written → List ℕ → ℕ → Type 0
IsToldOfEither image budget plans order written text status =
    IsTold (λ left. IsLeftByOne image plans order left × IsFreeEnd image left) (IsTextOf written image) text status
    ⊎ IsTold (λ left. IsEndedRun image plans order left × IsArrivedRun image left × IsStuckAt image left)
    (IsStuckTextOf written image budget) text status

-- a run, if its plans are right: else there is a fault
pub record IsRunUntilStuck (image : ImageParts) (budget : ℕ) (plans : List Plan) (order : List ℕ) (written : Written)
    (text : List ℕ) (status : ℕ) : Type 0 where
  pub told : ArePlans image plans order → IsToldOfEither image budget plans order written text status
  pub refused : ¬ ArePlans image plans order → IsFaulty text status

-- `one --until-stuck`
abbrev pub IsOneUntilStuck : ImageParts → ℕ → Option (List ℕ) → Option (List ℕ) → Written → List ℕ → ℕ → Type 0
IsOneUntilStuck image budget harts ranks written text status =
    ByPlans image budget harts (λ plans.
    IsRunUntilStuck image budget plans (listed ranks image.ranks) written text status)

-- what ranks leave that ran on threads of their own and were told to stop: what fits together, as of any run
pub record IsLeftTold (image : ImageParts) (plans : List Plan) (left : Record) : Type 0 where
  pub apart : IsEndedThreadRun image plans left
  pub arrived : IsArrivedRun image left

-- the run came to the end of its plans and to no deadlock of all that have a running or a waiting hart; or to one; or else
-- to none, though some rank was told to stop, and then it says `told`
abbrev pub IsToldOfThreads : ImageParts → ℕ → List Plan → Written → List ℕ → ℕ → Type 0
IsToldOfThreads image budget plans written text status =
    IsTold (λ left. IsLeftByThreads image plans left × IsFreeEnd image left) (IsTextOf written image) text status
    ⊎ (IsTold (λ left. IsLeftTold image plans left × IsStuckAt image left) (IsStuckTextOf written image budget) text status
    ⊎ IsTold (λ left. IsLeftTold image plans left × IsSomeTold plans left × IsNotStuckAt image left)
    (IsToldTextOf (codes "told") written image budget) text status)

-- a run, if its plans are right: else there is a fault
pub record IsThreadsUntilStuckBy (image : ImageParts) (budget : ℕ) (plans : List Plan) (written : Written)
    (text : List ℕ) (status : ℕ) : Type 0 where
  pub told : HasPlans image plans → IsToldOfThreads image budget plans written text status
  pub refused : ¬ HasPlans image plans → IsFaulty text status

-- `run --until-stuck`
abbrev pub IsThreadsUntilStuck : ImageParts → ℕ → Option (List ℕ) → Written → List ℕ → ℕ → Type 0
IsThreadsUntilStuck image budget harts written text status =
    ByPlans image budget harts (λ plans. IsThreadsUntilStuckBy image budget plans written text status)
