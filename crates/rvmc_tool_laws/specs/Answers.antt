-- What follows for a report of `run`, for what `--record` leaves, and for the verdict that `why` tells.
use Rattle.std.specs.Prelude.{ℕ, ◌≡◌, ◌≢◌, ◌<◌, ◌↔◌, ⊤, Bool, IsTrue, true, false, List, [], ◌∷◌, length, slice_get, Option, None, Some}
use Rattle.std.specs.List.{list_all}
use Rattle.rv_hart.specs.State.{is_stopped}
use Rattle.cl_rank.specs.declared.stops.Stop.{Stop}
use Rattle.cl_rank.specs.declared.stops.Stop.TheVariants.{AllEnded, Budget}
use Rattle.cl_record.specs.declared.plans.Plan.{Plan}
use Rattle.cl_check.specs.declared.checking.Verdict.TheVariants.{Good}
use Rattle.cl_machine.specs.Cluster.{Cluster}
use Rattle.cl_machine.specs.declared.steps.Step.{Step}
use Rattle.cl_deadlock.specs.Why.{IsVerdictOf}
use Rattle.cl_deadlock_laws.specs.Stuck.{SomeWaits, is_among}
use Rattle.cl_replay.specs.declared.states.ClusterState.{ClusterState}
use Rattle.rv_image_types.specs.declared.images.ImageParts.{ImageParts}
use Rattle.rvmc_tool.specs.Below.{IsLeftByThreads, IsTextOf, IsTold}
use Rattle.rvmc_tool.specs.Answers.{Says}
use Rattle.rvmc_answers.specs.Ends.{IsDone}
use Rattle.rvmc_answers.specs.Whys.{IsWhyAt}
use Rattle.rvmc_answers.specs.Plans.{ArePlansOf, listed}
use Rattle.rvmc_line.specs.declared.line.CommandLine.{CommandLine}
use Rattle.rvmc_line.specs.declared.line.CommandLine.TheVariants.{OfImage, OfRecord}
use Rattle.rvmc_line.specs.declared.line.ImageCommand.TheVariants.{One, OneUntilStuck, Run, RunUntilStuck}
use Rattle.rvmc_line.specs.declared.line.RecordCommand.TheVariants.{Check}
use Rattle.rvmc_line.specs.declared.line.Written.{Written}
use Rattle.rvmc_line.specs.declared.line.Written.TheVariants as written
use Rattle.rvmc_report.specs.Report.{RankEnd, report}
use Rattle.rvmc_views.specs.Verdicts.{verdict_text}
use Rattle.rvmc_inspect.specs.Why.{live_ranks, why_text}

-- why a rank stopped, as its harts and the number of its turns have it: all harts are stopped just where that is told;
-- the budget is used up, and there was one; for any other cause turns were left; and the cause is known
abbrev pub FitsStop : ℕ → RankEnd → Option Stop → Type 0
FitsStop budget end (Some AllEnded) = list_all (λ hart. is_stopped hart.mode) end.harts ≡ true
FitsStop budget end (Some Budget) =
    (list_all (λ hart. is_stopped hart.mode) end.harts ≡ false) × (end.turns ≡ budget) × (0 < end.turns)
FitsStop budget end (Some other) =
    (list_all (λ hart. is_stopped hart.mode) end.harts ≡ false) × (end.turns < budget)
FitsStop budget end None = ⊥

-- a report of a run with threads tells of each rank why it stopped, and that fits what it tells of its harts and turns.
-- So ranks as they were loaded, with a hart that runs and without a turn, have no report that says that all harts
-- ended, or that the budget was used
abbrev pub StopsFitLaw : Type 0
StopsFitLaw = (image : ImageParts) (budget : ℕ) (harts : Option (List ℕ)) (plans : List Plan) (text : List ℕ)
    (status : ℕ)
    → ArePlansOf image.ranks (listed harts image.harts) budget plans
    → IsTold (IsLeftByThreads image plans) (IsTextOf written.Report image) text status
    → (ends : List RankEnd) × (text ≡ report ends) × (length ends ≡ image.ranks)
    × ((r : ℕ) (end : RankEnd) → slice_get ends r ≡ Some end → FitsStop budget end end.stop)

-- whether a record is asked for
abbrev pub is_record : Written → Bool
is_record written.Record = true
is_record other = false

abbrev pub is_recorded : CommandLine → Bool
is_recorded (OfImage source (Run budget plan lead written)) = is_record written
is_recorded (OfImage source (RunUntilStuck budget plan lead written)) = is_record written
is_recorded (OfImage source (One budget plan order written)) = is_record written
is_recorded (OfImage source (OneUntilStuck budget plan order written)) = is_record written
is_recorded other = false

-- what `run` or `one` leaves with `--record`, if it leaves anything, is good by `check`, and nothing else: it is no
-- fault, and no step of it is bad
abbrev pub RecordedIsGoodLaw : Type 0
RecordedIsGoodLaw = (line : CommandLine) (bytes text told : List ℕ) (status ended : ℕ) → is_recorded line ≡ true
    → Says line bytes text status → text ≢ [] → Says (OfRecord Check) text told ended
    → (count : ℕ) × IsDone (verdict_text Good count) told ended

-- a verdict names exactly those of the ranks in a deadlock that have a hart that waits
abbrev pub NamesWhoWaits : ClusterState → Cluster → Option (List ℕ) → Type 0
NamesWhoWaits state cluster None = ⊤
NamesWhoWaits state cluster (Some ranks) =
    (r : ℕ) → IsTrue (is_among (live_ranks state ranks) r) ↔ (IsTrue (is_among ranks r) × SomeWaits (r ∷ []) cluster)

-- the verdict that is told of a place is right of the cluster to which the steps lead: if it is a deadlock, no run of the
-- machine lets any of its ranks go on, which are the most that are stuck together, and those that wait are named; and
-- where none is told, nobody waits of whichever ranks are stuck together
abbrev pub VerdictIsTrueLaw : Type 0
VerdictIsTrueLaw =
    (framed : Bool) (image : ImageParts) (steps : List Step) (n : ℕ) (text : List ℕ)
    (is : IsWhyAt framed image steps n text)
    → (found : Option (List ℕ)) × (text ≡ why_text framed image is.state found) × IsVerdictOf is.reached.cluster found
    × NamesWhoWaits is.state is.reached.cluster found
