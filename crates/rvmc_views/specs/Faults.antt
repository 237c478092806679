-- Which fault is told of a record, and how what is told of it ends.
use Rattle.std.specs.Prelude.{◌≡◌, ⊤, ℕ, List, MatchResult, Result, Err}
use Rattle.cl_machine.specs.declared.steps.Step.{Step}
use Rattle.cl_text.specs.Reading.{reading_record}
use Rattle.cl_text.specs.declared.faults.RecordFault.{RecordFault}
use Rattle.rv_image_types.specs.declared.images.ImageParts.{ImageParts}
use Rattle.rvmc_line.specs.declared.line.RecordCommand.{RecordCommand}
use Rattle.rvmc_list.specs.declared.walk.ListFault.{ListFault}
use Rattle.rvmc_list.specs.declared.walk.ListFault.TheVariants as list
use Rattle.rvmc_page.specs.Below.{DrawFault}
use Rattle.rvmc_page.specs.Below.draw
use Rattle.cl_replay.specs.declared.replaying.ReplayFault.{ReplayFault}
use Rattle.rvmc_answers.specs.Below.{Fault, fault_by, place_of}
use Rattle.rvmc_answers.specs.Below.drawn
use Rattle.rvmc_answers.specs.Below.faults
use Rattle.rvmc_answers.specs.Below.listed as refusal
use Rattle.rvmc_views.specs.Records.{RefusesSteps, TellsOfSteps, part_behind, record_part}
use Rattle.rvmc_answers.specs.declared.answers.End.{End}

-- an answer to a record is what the command tells of its image and its steps
abbrev pub HasTold : RecordCommand → List ℕ → List ℕ → End → Type 0
HasTold command bytes text end =
    MatchResult (reading_record (record_part command bytes))
    (λ read. TellsOfSteps command (part_behind command bytes) read.0 read.1 text end) (λ _. ⊥)

-- of bytes that are no record: their first fault, unless memory was refused
abbrev pub IsUnread : List ℕ → Fault → Type 0
IsUnread bytes faults.Memory = ⊤
IsUnread bytes (faults.Record fault) = reading_record bytes ≡ Err fault
IsUnread bytes other = ⊥

-- of the image and the steps of a record, unless memory was refused
abbrev pub IsStepsFault : RecordCommand → ImageParts → List Step → Fault → Type 0
IsStepsFault command image steps faults.Memory = ⊤
IsStepsFault command image steps fault = RefusesSteps command image steps fault

-- what is told of a fault of `list`
abbrev pub fault_of_list : ListFault → Fault
fault_of_list list.NoRank = faults.List refusal.NoRank
fault_of_list (list.Replay why) = fault_by (λ fault. faults.List (refusal.Place fault)) (place_of why)

-- of `draw`
abbrev pub fault_of_draw : DrawFault → Fault
fault_of_draw (draw.Replay why) = fault_by (λ fault. faults.Draw (drawn.Place fault)) (place_of why)
fault_of_draw (draw.TooMany count) = faults.Draw (drawn.TooMany count)

-- and of `page`
abbrev pub fault_of_page : ReplayFault → Fault
fault_of_page why = fault_by faults.Page (place_of why)

-- of what was read as a record: its first fault, or else one of its image and its steps, unless memory was refused
abbrev pub IsReadFault : RecordCommand → Result (ImageParts × List Step) RecordFault → Fault → Type 0
IsReadFault command read faults.Memory = ⊤
IsReadFault command read fault =
    MatchResult read (λ found. RefusesSteps command found.0 found.1 fault) (λ meant. fault ≡ faults.Record meant)
