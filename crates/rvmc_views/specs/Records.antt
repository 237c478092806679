-- What a command says of the image and the steps of a record, and for which fault it says nothing: one definition of each
-- a command.
use Rattle.std.specs.Prelude.{◌≡◌, ◌⊎◌, ◌-◌, ℕ, Bool, true, false, List, [], ◌∷◌, drop, length, take, MatchResult, Option, None, Some}
use Rattle.std.specs.List.{All, sum_by}
use Rattle.cl_debug.specs.declared.faults.DebugFault.{DebugFault}
use Rattle.cl_debug.specs.declared.faults.DebugFault.TheVariants as debug
use Rattle.cl_machine.specs.declared.steps.Step.{Step}
use Rattle.cl_check.specs.Checks.{IsVerdict}
use Rattle.cl_replay.specs.InnerReplaying.{BreaksAt, ReplayFaultHolds}
use Rattle.cl_replay.specs.Replays.{IsRunUpTo}
use Rattle.cl_check.specs.declared.checking.Verdict.{Verdict}
use Rattle.cl_replay.specs.declared.replaying.ReplayFault.TheVariants as replay
use Rattle.cl_text.specs.Reading.{reading_record}
use Rattle.rv_image_types.specs.declared.images.ImageParts.{ImageParts}
use Rattle.rvmc_draw.specs.declared.drawing.Drawing.{Drawing}
use Rattle.rvmc_words.specs.declared.debug.DebugWord.{DebugWord}
use Rattle.rvmc_line.specs.declared.line.RecordCommand.{RecordCommand}
use Rattle.rvmc_line.specs.declared.line.RecordCommand.TheVariants.{Check, Debug, Draw, List as ListSteps, Page, Report, Stats, Why}
use Rattle.rvmc_line.specs.declared.texts.SourceSize.{SourceSize}
use Rattle.rvmc_list.specs.List.{IsList, ListFaultHolds}
use Rattle.rvmc_list.specs.Stats.{IsStats}
use Rattle.rvmc_list.specs.declared.folding.Wanted.{Wanted}
use Rattle.rvmc_list.specs.declared.walk.ListFault.TheVariants as list
use Rattle.rvmc_page.specs.Records.{IsPage}
use Rattle.rvmc_page.specs.Texts.{Source}
use Rattle.rvmc_page.specs.Below.{DrawFaultHolds, IsDrawing, furthest, view_of}
use Rattle.rvmc_page.specs.Below.draw
use Rattle.rvmc_answers.specs.Below.{Fault, IsReportOf, IsTextOfWords, fault_of_debug, fault_status}
use Rattle.rvmc_answers.specs.Below.{replay_of}
use Rattle.rvmc_views.specs.Verdicts.{verdict_status, verdict_text}
use Rattle.rvmc_answers.specs.Below.drawn
use Rattle.rvmc_answers.specs.Below.faults
use Rattle.rvmc_answers.specs.Below.listed as refusal
use Rattle.rvmc_svg.specs.Safe.{IsAllowed}
use Rattle.rvmc_svg.specs.Shown.{IsShown}
use Rattle.rvmc_answers.specs.Ends.{IsFaulty, end_status}
use Rattle.rvmc_answers.specs.declared.answers.End.{End}
use Rattle.rvmc_answers.specs.declared.answers.End.TheVariants.{Cut, Status}
use Rattle.rvmc_answers.specs.Whys.{IsWhyAt}

-- ---- what is read

-- how many bytes sources have
abbrev pub size_of_all : List SourceSize → ℕ
size_of_all texts = sum_by (λ one. one.size) texts

-- the bytes of the record: all that are read, but for the sources of a page, which stand behind it
abbrev pub record_part : RecordCommand → List ℕ → List ℕ
record_part (Page from to texts) bytes = take (length bytes - size_of_all texts) bytes
record_part other bytes = bytes

-- the bytes behind it
abbrev pub part_behind : RecordCommand → List ℕ → List ℕ
part_behind (Page from to texts) bytes = drop (length bytes - size_of_all texts) bytes
part_behind other bytes = []

-- of these the sources, one behind the other
abbrev pub sources_in : List SourceSize → List ℕ → List Source
sources_in [] bytes = []
sources_in (one ∷ others) bytes =
    record { name = one.name; bytes = take one.size bytes } ∷ sources_in others (drop one.size bytes)

-- ---- `check`

-- the verdict on the steps, and its status
pub record IsChecked (image : ImageParts) (steps : List Step) (text : List ℕ) (end : End) : Type 0 where
  pub verdict : Verdict
  pub found : IsVerdict image steps verdict
  pub told : text ≡ verdict_text verdict (length steps)
  pub end_is : end ≡ Status (verdict_status verdict)

-- ---- `report`

-- the report of a state to which all steps lead, which are a run of the image, and its status
pub record IsReported (image : ImageParts) (steps : List Step) (text : List ℕ) (end : End) : Type 0 where
  pub status : ℕ
  pub told : IsReportOf image steps text status
  pub end_is : end ≡ Status status

-- steps that are no run are a fault: the first that isn't the machine's
abbrev pub IsNoReport : ImageParts → List Step → Fault → Type 0
IsNoReport image steps (faults.Report n) = ReplayFaultHolds image steps (length steps) (replay.Step n)
IsNoReport image steps other = ⊥

-- ---- `list`

-- what is asked for
abbrev pub wanted_of : ℕ → Option ℕ → Option ℕ → Bool → Wanted
wanted_of from to rank calls = record { from = from; to = to; rank = rank; calls = calls }

-- with `--stats` no lines are wanted
abbrev pub counted_of : ℕ → Option ℕ → Option ℕ → Wanted
counted_of from to rank = wanted_of from to rank false

-- a rank or a place that isn't there, and steps that are no run up to the list's end, are faults, of tables as of lines
abbrev pub IsNoList : ImageParts → List Step → Wanted → Fault → Type 0
IsNoList image steps wanted (faults.List refusal.NoRank) = ListFaultHolds image steps wanted list.NoRank
IsNoList image steps wanted (faults.List (refusal.Place why)) =
    ListFaultHolds image steps wanted (list.Replay (replay_of why))
IsNoList image steps wanted other = ⊥

-- ---- `draw`

-- a picture of the steps from one place to another, or to the end: a drawing of them, and a text in which what is told of its
-- marks stands, and of which each byte is one that XML allows
pub record IsPicture (image : ImageParts) (steps : List Step) (from : ℕ) (to : Option ℕ) (text : List ℕ) : Type 0 where
  pub drawing : Drawing
  pub is : IsDrawing image steps (view_of from to steps) drawing
  pub allowed : All IsAllowed text
  pub shown : IsShown drawing text

-- a place that isn't there, a step that is none of the machine's, and more marks than a picture may have are faults
abbrev pub IsNoPicture : ImageParts → List Step → ℕ → Option ℕ → Fault → Type 0
IsNoPicture image steps from to (faults.Draw (drawn.Place why)) =
    DrawFaultHolds image steps (view_of from to steps) (draw.Replay (replay_of why))
IsNoPicture image steps from to (faults.Draw (drawn.TooMany n)) =
    DrawFaultHolds image steps (view_of from to steps) (draw.TooMany n)
IsNoPicture image steps from to other = ⊥

-- ---- `page`

-- a place that isn't there, and a step that is none of the machine's, are faults
abbrev pub IsNoPage : ImageParts → List Step → ℕ → Option ℕ → Fault → Type 0
IsNoPage image steps from to (faults.Page why) =
    ReplayFaultHolds image steps (furthest (view_of from to steps) steps) (replay_of why)
IsNoPage image steps from to other = ⊥

-- ---- `debug`

-- the words end: all are done, or one is refused for this
abbrev pub end_after : Option DebugFault → End
end_after None = Status 0
end_after (Some fault) = Cut (fault_of_debug fault)

-- what the words of `debug` tell of steps, which are a run of the image, from the start of the run on
pub record IsDebugged (image : ImageParts) (steps : List Step) (words : List DebugWord) (text : List ℕ) (end : End)
    : Type 0 where
  pub run : IsRunUpTo image steps (length steps)
  pub fault : Option DebugFault
  pub told : IsTextOfWords (record { image = image; steps = steps; place = 0; breaks = [] }) words text fault
  pub end_is : end ≡ end_after fault

-- steps that are no run are a fault: the first that isn't the machine's
abbrev pub IsNoRun : ImageParts → List Step → Fault → Type 0
IsNoRun image steps (faults.Debug (debug.NotARun n)) = BreaksAt image steps n
IsNoRun image steps other = ⊥

-- ---- `why`

-- the place of which `why` tells: so many steps are done, or all
abbrev pub place_asked : Option ℕ → List Step → ℕ
place_asked (Some n) steps = n
place_asked None steps = length steps

-- a place that isn't there is a fault: there are fewer steps, or one before the place is the first that isn't the
-- machine's
abbrev pub IsNoPlace : ImageParts → List Step → ℕ → Fault → Type 0
IsNoPlace image steps n (faults.Why why) = ReplayFaultHolds image steps n (replay_of why)
IsNoPlace image steps n other = ⊥

-- ---- all of them

-- whether a command writes its text in pieces: the lines of steps, or a page
abbrev pub is_in_pieces : RecordCommand → Bool
is_in_pieces (ListSteps from to rank calls) = true
is_in_pieces (Page from to texts) = true
is_in_pieces other = false

-- what stands on the output, and how it ends, of what stood behind the record, of its image and its steps. The status of
-- `why` tells nothing of the verdict
abbrev pub TellsOfSteps : RecordCommand → List ℕ → ImageParts → List Step → List ℕ → End → Type 0
TellsOfSteps Check behind image steps text end = IsChecked image steps text end
TellsOfSteps Report behind image steps text end = IsReported image steps text end
TellsOfSteps (ListSteps from to rank calls) behind image steps text end =
    IsList image steps (wanted_of from to rank calls) text × (end ≡ Status 0)
TellsOfSteps (Stats from to rank) behind image steps text end =
    IsStats image steps (counted_of from to rank) text × (end ≡ Status 0)
TellsOfSteps (Draw from to) behind image steps text end = IsPicture image steps from to text × (end ≡ Status 0)
TellsOfSteps (Page from to texts) behind image steps text end =
    IsPage image steps (view_of from to steps) (sources_in texts behind) text × (end ≡ Status 0)
TellsOfSteps (Debug words) behind image steps text end = IsDebugged image steps words text end
TellsOfSteps (Why at frames) behind image steps text end =
    IsWhyAt frames image steps (place_asked at steps) text × (end ≡ Status 0)

-- for which fault of the input nothing does
abbrev pub RefusesSteps : RecordCommand → ImageParts → List Step → Fault → Type 0
RefusesSteps Check image steps fault = ⊥
RefusesSteps Report image steps fault = IsNoReport image steps fault
RefusesSteps (ListSteps from to rank calls) image steps fault =
    IsNoList image steps (wanted_of from to rank calls) fault
RefusesSteps (Stats from to rank) image steps fault = IsNoList image steps (counted_of from to rank) fault
RefusesSteps (Draw from to) image steps fault = IsNoPicture image steps from to fault
RefusesSteps (Page from to texts) image steps fault = IsNoPage image steps from to fault
RefusesSteps (Debug words) image steps fault = IsNoRun image steps fault
RefusesSteps (Why at frames) image steps fault = IsNoPlace image steps (place_asked at steps) fault

-- the one or the other
abbrev pub SaysOfSteps : RecordCommand → List ℕ → ImageParts → List Step → List ℕ → ℕ → Type 0
SaysOfSteps command behind image steps text status =
    ((end : End) × TellsOfSteps command behind image steps text end × (status ≡ end_status end))
    ⊎ ((fault : Fault) × RefusesSteps command image steps fault × (text ≡ []) × (status ≡ fault_status fault))

-- of the record that the bytes spell. Bytes that spell none are a fault of the input
abbrev pub SaysOfRecord : RecordCommand → List ℕ → List ℕ → ℕ → Type 0
SaysOfRecord command bytes text status =
    MatchResult (reading_record (record_part command bytes))
    (λ read. SaysOfSteps command (part_behind command bytes) read.0 read.1 text status) (λ _. IsFaulty text status)
