-- What is told of a fault of `page` is true of the record, and what `page` leaves is told of the bytes that spell it.
use Rattle.std.proofs.Common.{◌≡◌, ℕ, List, inl, inr, refl, subst}
use Rattle.std.specs.Prelude.{◌-◌, Ok, Option, length, take}
use Rattle.cl_machine.specs.declared.steps.Step.{Step}
use Rattle.cl_replay.specs.InnerReplaying.{ReplayFaultHolds}
use Rattle.cl_replay.specs.declared.replaying.ReplayFault.{ReplayFault}
use Rattle.cl_replay.specs.declared.replaying.ReplayFault.TheVariants as replay
use Rattle.cl_text.specs.Reading.{reading_record}
use Rattle.rv_image_types.specs.declared.images.ImageParts.{ImageParts}
use Rattle.rvmc_line.specs.declared.line.RecordCommand.TheVariants as command
use Rattle.rvmc_line.specs.declared.texts.SourceSize.{SourceSize}
use Rattle.rvmc_page.specs.Records.{IsPage}
use Rattle.rvmc_page.specs.Texts.{Source}
use Rattle.rvmc_page.specs.Written.{IsPageWritten, LeavesPage}
use Rattle.rvmc_page.specs.Below.{furthest, view_of}
use Rattle.rvmc_answers.specs.Below.{Fault}
use Rattle.rvmc_views.specs.Pieces.{IsMade, LeavesPieces}
use Rattle.rvmc_views.specs.Faults.{IsReadFault, IsStepsFault, IsUnread, fault_of_page}
use Rattle.rvmc_views.specs.Records.{SaysOfRecord, part_behind, record_part, size_of_all, sources_in}
use Rattle.rvmc_answers.specs.declared.answers.End.TheVariants.{Status}
use Rattle.rvmc_views.proofs.Readings.{of_part, says, unread_part}

pub page_fault : (image : ImageParts) (steps : List Step) (from : ℕ) (to : Option ℕ) (texts : List SourceSize)
    (why : ReplayFault) → ReplayFaultHolds image steps (furthest (view_of from to steps) steps) why
    → IsStepsFault (command.Page from to texts) image steps (fault_of_page why)
page_fault image steps from to texts (replay.PastEnd n) holds = holds
page_fault image steps from to texts (replay.Step n) holds = holds
page_fault image steps from to texts replay.Memory holds = tt

-- a fault of the part of the bytes that is the record is one of what was read; and so is one of its image and its steps
module _ (from : ℕ) (to : Option ℕ) (texts : List SourceSize) (bytes part : List ℕ)
    (part_is : part ≡ take (length bytes - size_of_all texts) bytes) (fault : Fault) where
  pub unread_page : IsUnread part fault
      → IsReadFault (command.Page from to texts) (reading_record (take (length bytes - size_of_all texts) bytes)) fault
  unread_page is = unread_part (command.Page from to texts) bytes part part_is fault is

  pub of_page : (image : ImageParts) (steps : List Step) → reading_record part ≡ Ok (image, steps)
      → IsStepsFault (command.Page from to texts) image steps fault
      → IsReadFault (command.Page from to texts) (reading_record (take (length bytes - size_of_all texts) bytes)) fault
  of_page image steps read is = of_part (command.Page from to texts) bytes part part_is image steps fault read is

module _ (from : ℕ) (to : Option ℕ) (texts : List SourceSize) (bytes : List ℕ) (image : ImageParts) (steps : List Step)
    (read : reading_record (record_part (command.Page from to texts) bytes) ≡ Ok (image, steps)) (sources : List Source)
    (sources_are : sources ≡ sources_in texts (part_behind (command.Page from to texts) bytes)) where
  -- what is written of the image and the steps of a record, and of the sources, is said of the bytes that spell them
  says_page : (text : List ℕ) → IsPage image steps (view_of from to steps) sources text
      → SaysOfRecord (command.Page from to texts) bytes text 0
  says_page text is =
      says (command.Page from to texts) bytes image steps text (Status 0) read
      (subst (λ (s : List Source). IsPage image steps (view_of from to steps) s text) sources_are is, refl)

  pub paged : (old new : Option (List ℕ)) → IsPageWritten image steps (view_of from to steps) sources old new
      → IsMade (command.Page from to texts) bytes old new
  paged old new is = record { text = is.text; says = says_page is.text is.page; there = is.there }

  -- and so is what is left by a fault
  pub left : (fault : ReplayFault) (old new : Option (List ℕ))
      → LeavesPage image steps (view_of from to steps) sources fault old new
      → LeavesPieces (command.Page from to texts) bytes (fault_of_page fault) old new
  left (replay.PastEnd n) old new keeps = keeps
  left (replay.Step n) old new keeps = keeps
  left replay.Memory old new (inl keeps) = inl keeps
  left replay.Memory old new (inr begun) = inr (record {
    text = begun.text;
    says = says_page begun.text begun.page;
    front = begun.front;
    begins = begun.begins;
    there = begun.there;
  })
