-- From what is told of an image and steps to what is said of the record that spells them.
use Rattle.std.proofs.Common.{◌≡◌, List, [], ℕ, ap, inl, refl, subst, sym, ◌∙◌}
use Rattle.std.specs.Prelude.{MatchResult, Result, Ok, false}
use Rattle.cl_machine.specs.declared.steps.Step.{Step}
use Rattle.cl_check.specs.Texts.{IsCheckOf}
use Rattle.cl_check.specs.declared.texts.Checked.{Checked}
use Rattle.cl_text.specs.Reading.{reading_record}
use Rattle.cl_text.specs.declared.faults.RecordFault.{RecordFault}
use Rattle.rv_image_types.specs.declared.images.ImageParts.{ImageParts}
use Rattle.rvmc_line.specs.declared.line.RecordCommand.{RecordCommand}
use Rattle.rvmc_line.specs.declared.line.RecordCommand.TheVariants.{Check, Debug, Draw, List as ListSteps, Page, Report}
use Rattle.rvmc_line.specs.declared.line.RecordCommand.TheVariants.{Stats, Why}
use Rattle.rvmc_answers.specs.Below.{Fault}
use Rattle.rvmc_views.specs.Verdicts.{verdict_status, verdict_text}
use Rattle.rvmc_answers.specs.Below.faults
use Rattle.rvmc_answers.specs.Ends.{IsFaulty, end_status}
use Rattle.rvmc_views.specs.Faults.{HasTold, IsReadFault, IsStepsFault, IsUnread}
use Rattle.rvmc_views.specs.Records.{SaysOfRecord, SaysOfSteps, TellsOfSteps, is_in_pieces, part_behind, record_part}
use Rattle.rvmc_answers.specs.declared.answers.End.{End}
use Rattle.rvmc_answers.specs.declared.answers.End.TheVariants.{Status}

abbrev Read : Type 0
Read = Result (ImageParts × List Step) RecordFault

-- a fault of the record is one of what was read
pub unread : (command : RecordCommand) (bytes : List ℕ) (fault : Fault) → IsUnread bytes fault
    → IsReadFault command (reading_record bytes) fault
unread command bytes faults.Memory is = tt
unread command bytes (faults.Record fault) is =
    subst (λ (read : Read). IsReadFault command read (faults.Record fault)) (sym is) refl
unread command bytes other is = absurd is

-- and so is one of its image and its steps
pub of_steps : (command : RecordCommand) (bytes : List ℕ) (image : ImageParts) (steps : List Step) (fault : Fault)
    → reading_record bytes ≡ Ok (image, steps) → IsStepsFault command image steps fault
    → IsReadFault command (reading_record bytes) fault
of_steps command bytes image steps faults.Memory read is = tt
of_steps command bytes image steps fault read is =
    subst (λ (read : Read). IsReadFault command read fault) (sym read) is

-- the same of the part of the bytes that is the record
pub unread_part : (command : RecordCommand) (bytes part : List ℕ) → part ≡ record_part command bytes → (fault : Fault)
    → IsUnread part fault → IsReadFault command (reading_record (record_part command bytes)) fault
unread_part command bytes part part_is fault is =
    subst (λ (b : List ℕ). IsReadFault command (reading_record b) fault) part_is (unread command part fault is)

pub of_part : (command : RecordCommand) (bytes part : List ℕ) → part ≡ record_part command bytes
    → (image : ImageParts) (steps : List Step) (fault : Fault) → reading_record part ≡ Ok (image, steps)
    → IsStepsFault command image steps fault → IsReadFault command (reading_record (record_part command bytes)) fault
of_part command bytes part part_is image steps fault read is =
    subst (λ (b : List ℕ). IsReadFault command (reading_record b) fault) part_is
    (of_steps command part image steps fault read is)

-- what is told of them
pub has_told : (command : RecordCommand) (bytes : List ℕ) (image : ImageParts) (steps : List Step) (text : List ℕ)
    (end : End) → reading_record (record_part command bytes) ≡ Ok (image, steps)
    → TellsOfSteps command (part_behind command bytes) image steps text end → HasTold command bytes text end
has_told command bytes image steps text end read tells =
    subst
    (λ (read : Read). MatchResult read (λ r. TellsOfSteps command (part_behind command bytes) r.0 r.1 text end) (λ _. ⊥))
    (sym read) tells

pub says : (command : RecordCommand) (bytes : List ℕ) (image : ImageParts) (steps : List Step) (text : List ℕ)
    (end : End) → reading_record (record_part command bytes) ≡ Ok (image, steps)
    → TellsOfSteps command (part_behind command bytes) image steps text end
    → SaysOfRecord command bytes text (end_status end)
says command bytes image steps text end read tells =
    subst
    (λ (read : Read). MatchResult read
    (λ r. SaysOfSteps command (part_behind command bytes) r.0 r.1 text (end_status end))
    (λ _. IsFaulty text (end_status end))) (sym read) (inl (end, tells, refl))

-- ---- of `check`

-- the verdict on a record is one on its steps
check_tells : (bytes : List ℕ) (found : Checked) (text : List ℕ) (end : End)
    → (is : IsCheckOf (reading_record bytes) found) → text ≡ verdict_text found.verdict found.steps
    → end ≡ Status (verdict_status found.verdict) → TellsOfSteps Check [] is.image is.steps text end
check_tells bytes found text end is told end_is = record {
  verdict = found.verdict;
  found = is.found;
  told = told ∙ ap (verdict_text found.verdict) is.many;
  end_is = end_is;
}

pub check_says : (bytes : List ℕ) (found : Checked) (text : List ℕ) (end : End) → IsCheckOf (reading_record bytes) found
    → text ≡ verdict_text found.verdict found.steps → end ≡ Status (verdict_status found.verdict)
    → SaysOfRecord Check bytes text (end_status end)
check_says bytes found text end is told end_is =
    says Check bytes is.image is.steps text end is.is (check_tells bytes found text end is told end_is)

pub check_has_told : (bytes : List ℕ) (found : Checked) (text : List ℕ) (end : End)
    → IsCheckOf (reading_record bytes) found → text ≡ verdict_text found.verdict found.steps
    → end ≡ Status (verdict_status found.verdict) → HasTold Check bytes text end
check_has_told bytes found text end is told end_is =
    has_told Check bytes is.image is.steps text end is.is (check_tells bytes found text end is told end_is)

-- ---- of a command whose record is all that is read

module _ (command : RecordCommand) (bytes : List ℕ) (whole : is_in_pieces command ≡ false) where
  all_read : (c : RecordCommand) → is_in_pieces c ≡ false → (record_part c bytes ≡ bytes) × (part_behind c bytes ≡ [])
  all_read Check is = (refl, refl)
  all_read Report is = (refl, refl)
  all_read (Debug words) is = (refl, refl)
  all_read (Stats from to rank) is = (refl, refl)
  all_read (Draw from to) is = (refl, refl)
  all_read (Why at frames) is = (refl, refl)
  all_read (ListSteps from to rank calls) is = absurd (cc)
  all_read (Page from to texts) is = absurd (cc)

  abbrev part_is : record_part command bytes ≡ bytes
  part_is = (all_read command whole).0

  pub unread_whole : (fault : Fault) → IsUnread bytes fault
      → IsReadFault command (reading_record (record_part command bytes)) fault
  unread_whole fault is = unread_part command bytes bytes (sym part_is) fault is

  module _ (image : ImageParts) (steps : List Step) (read : reading_record bytes ≡ Ok (image, steps)) where
    pub steps_whole : (fault : Fault) → IsStepsFault command image steps fault
        → IsReadFault command (reading_record (record_part command bytes)) fault
    steps_whole fault is = of_part command bytes bytes (sym part_is) image steps fault read is

    module _ (text : List ℕ) (end : End) (tells : TellsOfSteps command [] image steps text end) where
      abbrev read_part : reading_record (record_part command bytes) ≡ Ok (image, steps)
      read_part = subst (λ (b : List ℕ). reading_record b ≡ Ok (image, steps)) (sym part_is) read

      abbrev tells_behind : TellsOfSteps command (part_behind command bytes) image steps text end
      tells_behind =
          subst (λ (b : List ℕ). TellsOfSteps command b image steps text end) (sym (all_read command whole).1) tells

      pub told_whole : HasTold command bytes text end
      told_whole = has_told command bytes image steps text end read_part tells_behind

      pub says_whole : SaysOfRecord command bytes text (end_status end)
      says_whole = says command bytes image steps text end read_part tells_behind
