-- What is told of a fault of `list` or `draw` is true of the record, and what `list` leaves is told of the bytes that spell
-- it.
use Rattle.std.proofs.Common.{◌≡◌, ℕ, List, inl, inr, refl}
use Rattle.std.specs.Prelude.{Bool, Ok, Option}
use Rattle.cl_machine.specs.declared.steps.Step.{Step}
use Rattle.cl_replay.specs.declared.replaying.ReplayFault.TheVariants as replay
use Rattle.cl_text.specs.Reading.{reading_record}
use Rattle.rv_image_types.specs.declared.images.ImageParts.{ImageParts}
use Rattle.rvmc_line.specs.declared.line.RecordCommand.TheVariants as command
use Rattle.rvmc_list.specs.List.{IsList, ListFaultHolds}
use Rattle.rvmc_list.specs.Written.{IsWritten, Leaves}
use Rattle.rvmc_list.specs.declared.folding.Wanted.{Wanted}
use Rattle.rvmc_list.specs.declared.walk.ListFault.{ListFault}
use Rattle.rvmc_list.specs.declared.walk.ListFault.TheVariants as list
use Rattle.rvmc_page.specs.Below.{DrawFault, DrawFaultHolds, view_of}
use Rattle.rvmc_page.specs.Below.draw
use Rattle.rvmc_views.specs.Pieces.{IsMade, LeavesPieces, list_of}
use Rattle.rvmc_views.specs.Faults.{IsStepsFault, fault_of_draw, fault_of_list}
use Rattle.rvmc_views.specs.Records.{SaysOfRecord, counted_of, wanted_of}
use Rattle.rvmc_answers.specs.declared.answers.End.TheVariants.{Status}
use Rattle.rvmc_views.proofs.Readings.{says}

pub list_fault : (image : ImageParts) (steps : List Step) (from : ℕ) (to rank : Option ℕ) (calls : Bool) (fault : ListFault)
    → ListFaultHolds image steps (wanted_of from to rank calls) fault
    → IsStepsFault (command.List from to rank calls) image steps (fault_of_list fault)
list_fault image steps from to rank calls list.NoRank holds = holds
list_fault image steps from to rank calls (list.Replay (replay.PastEnd n)) holds = holds
list_fault image steps from to rank calls (list.Replay (replay.Step n)) holds = holds
list_fault image steps from to rank calls (list.Replay replay.Memory) holds = tt

pub stats_fault : (image : ImageParts) (steps : List Step) (from : ℕ) (to rank : Option ℕ) (fault : ListFault)
    → ListFaultHolds image steps (counted_of from to rank) fault
    → IsStepsFault (command.Stats from to rank) image steps (fault_of_list fault)
stats_fault image steps from to rank list.NoRank holds = holds
stats_fault image steps from to rank (list.Replay (replay.PastEnd n)) holds = holds
stats_fault image steps from to rank (list.Replay (replay.Step n)) holds = holds
stats_fault image steps from to rank (list.Replay replay.Memory) holds = tt

pub draw_fault : (image : ImageParts) (steps : List Step) (from : ℕ) (to : Option ℕ) (fault : DrawFault)
    → DrawFaultHolds image steps (view_of from to steps) fault
    → IsStepsFault (command.Draw from to) image steps (fault_of_draw fault)
draw_fault image steps from to (draw.Replay (replay.PastEnd n)) holds = holds
draw_fault image steps from to (draw.Replay (replay.Step n)) holds = holds
draw_fault image steps from to (draw.Replay replay.Memory) holds = tt
draw_fault image steps from to (draw.TooMany count) holds = holds

-- what is written of the image and the steps of a record is said of the bytes that spell it
says_list : (wanted : Wanted) (bytes : List ℕ) (image : ImageParts) (steps : List Step) (text : List ℕ)
    → reading_record bytes ≡ Ok (image, steps) → IsList image steps wanted text
    → SaysOfRecord (list_of wanted) bytes text 0
says_list wanted bytes image steps text read lists =
    says (list_of wanted) bytes image steps text (Status 0) read (lists, refl)

pub listed : (wanted : Wanted) (bytes : List ℕ) (image : ImageParts) (steps : List Step) (old new : Option (List ℕ))
    → reading_record bytes ≡ Ok (image, steps) → IsWritten image steps wanted old new
    → IsMade (list_of wanted) bytes old new
listed wanted bytes image steps old new read is = record {
  text = is.text;
  says = says_list wanted bytes image steps is.text read is.list;
  there = is.there;
}

-- and so is what is left by a fault
pub left : (wanted : Wanted) (bytes : List ℕ) (image : ImageParts) (steps : List Step) (fault : ListFault)
    (old new : Option (List ℕ)) → reading_record bytes ≡ Ok (image, steps) → Leaves image steps wanted fault old new
    → LeavesPieces (list_of wanted) bytes (fault_of_list fault) old new
left wanted bytes image steps list.NoRank old new read keeps = keeps
left wanted bytes image steps (list.Replay (replay.PastEnd n)) old new read keeps = keeps
left wanted bytes image steps (list.Replay (replay.Step n)) old new read keeps = keeps
left wanted bytes image steps (list.Replay replay.Memory) old new read (inl keeps) = inl keeps
left wanted bytes image steps (list.Replay replay.Memory) old new read (inr begun) = inr (record {
  text = begun.text;
  says = says_list wanted bytes image steps begun.text read begun.list;
  front = begun.front;
  begins = begun.begins;
  there = begun.there;
})
