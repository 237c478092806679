-- What `--record` leaves is good.
use Rattle.std.proofs.Common.{◌≡◌, ◌∙◌, ℕ, Bool, true, false, List, [], length, inl, inr, refl, sym, ap, subst, true≢false}
use Rattle.std.specs.Prelude.{◌≢◌, MatchResult, Option, Result, Ok, Err}
use Rattle.std.specs.Result.{result_unwrap_or}
use Rattle.cl_machine.specs.declared.steps.Step.{Step}
use Rattle.cl_record.specs.Records.{IsMergedRun}
use Rattle.cl_record.specs.declared.records.Record.{Record}
use Rattle.cl_check.proofs.Verdicts.{merged_is_good}
use Rattle.cl_check.specs.Checks.{IsVerdict}
use Rattle.cl_check.specs.declared.checking.Verdict.{Verdict}
use Rattle.cl_check.specs.declared.checking.Verdict.TheVariants.{BadAt, Good}
use Rattle.cl_text.proofs.ReadAgain.{read_again}
use Rattle.cl_text.specs.Reading.{reading_record}
use Rattle.cl_text.specs.declared.faults.RecordFault.{RecordFault}
use Rattle.rv_image_types.specs.declared.images.ImageParts.{ImageParts}
use Rattle.cl_record.specs.declared.plans.Plan.{Plan}
use Rattle.rvmc_answers.specs.Ends.{IsDone, IsFaulty, end_status}
use Rattle.rvmc_answers.specs.Images.{image_in}
use Rattle.rvmc_tool.specs.Below.{IsChecked, IsOne, IsOneUntilStuck, IsRecordOf, IsRunAnswer, IsRunBy, IsTextOf}
use Rattle.rvmc_tool.specs.Below.{IsThreadsUntilStuck, IsToldOfThreads, SaysOfRecord, SaysOfSteps}
use Rattle.rvmc_answers.specs.declared.answers.End.{End}
use Rattle.rvmc_tool_laws.specs.Answers.{RecordedIsGoodLaw}
use Rattle.rvmc_tool.proofs.Below.{ok≢err}
use Rattle.rvmc_line.specs.declared.line.CommandLine.TheVariants.{OfImage}
use Rattle.rvmc_line.specs.declared.line.ImageCommand.TheVariants.{One, OneUntilStuck, Run, RunUntilStuck}
use Rattle.rvmc_line.specs.declared.line.RecordCommand.TheVariants.{Check}
use Rattle.rvmc_line.specs.declared.line.Written.TheVariants as written
use Rattle.rvmc_views.specs.Verdicts.{verdict_status, verdict_text}
use Rattle.rvmc_report.specs.declared.faults.Fault.{Fault}

-- the text of the record of a merged run
pub record IsMergedText (text : List ℕ) : Type 0 where
  pub image : ImageParts
  pub left : Record
  pub merged : IsMergedRun image left
  pub spells : IsRecordOf image left text

abbrev Read : Type 0
Read = Result (ImageParts × List Step) RecordFault

-- it is read again
reads : (text : List ℕ) (is : IsMergedText text) → reading_record text ≡ Ok (is.image, is.spells.steps)
reads text is = ap reading_record is.spells.spelled ∙ read_again is.image is.spells.steps is.spells.inside

abbrev is_good : Verdict → Bool
is_good Good = true
is_good (BadAt n) = false

-- and no step of it is bad
not_bad : (text : List ℕ) (image : ImageParts) (steps : List Step) (told : List ℕ) (end : End)
    (checked : IsChecked image steps told end) → reading_record text ≡ Ok (image, steps) → IsMergedText text
    → is_good checked.verdict ≡ true
not_bad text image steps told end checked read is =
    let same : (image, steps) ≡ (is.image, is.spells.steps) =
    ap (λ (r : Read). result_unwrap_or r (image, steps)) (sym read ∙ reads text is) in
    let found = subst (λ (r : ImageParts × List Step). IsVerdict r.0 r.1 checked.verdict) same checked.found in
    ap is_good (merged_is_good is.image is.left is.spells.steps checked.verdict is.merged is.spells.sorted found)

-- good, of so many steps
abbrev pub IsGood : List ℕ → ℕ → Type 0
IsGood told ended = (count : ℕ) × IsDone (verdict_text Good count) told ended

-- so it is good, wherever a fault of the input is ruled out
pub good_text : (text told : List ℕ) (ended : ℕ) → ¬ (¬ (IsMergedText text)) → SaysOfRecord Check text told ended
    → IsGood told ended
good_text text told ended is says = go (reading_record text) refl says
  where
    by : (image : ImageParts) (steps : List Step) (end : End) (checked : IsChecked image steps told end)
        → ended ≡ end_status end → reading_record text ≡ Ok (image, steps) → (v : Verdict) → checked.verdict ≡ v
        → IsGood told ended
    by image steps end checked ends read Good e = (
      length steps,
      (
        checked.told ∙ ap (λ (v : Verdict). verdict_text v (length steps)) e,
        ends ∙ ap end_status checked.end_is ∙ ap verdict_status e,
      ),
    )
    by image steps end checked ends read (BadAt n) e =
        absurd (is (λ m. true≢false (sym (not_bad text image steps told end checked read m) ∙ ap is_good e)))

    of_steps : (image : ImageParts) (steps : List Step) → reading_record text ≡ Ok (image, steps)
        → SaysOfSteps Check [] image steps told ended → IsGood told ended
    of_steps image steps read (inl (end, checked, ends)) =
        by image steps end checked ends read checked.verdict refl
    of_steps image steps read (inr (fault, refuses, none, status)) = absurd refuses

    go : (r : Read) → reading_record text ≡ r
        → MatchResult r (λ read. SaysOfSteps Check [] read.0 read.1 told ended) (λ _. IsFaulty told ended)
        → IsGood told ended
    go (Ok read) e says = of_steps read.0 read.1 e says
    go (Err fault) e faulty = absurd (is (λ m. ok≢err _ _ (sym (reads text m) ∙ e)))

-- a run that is told of by its record, and not as a fault of the input
told_by : (Right : Type 0) (Leaves : Record → Type 0) (image : ImageParts) (text : List ℕ) (status : ℕ)
    → ((left : Record) → Leaves left → IsMergedRun image left) → text ≢ []
    → IsRunBy Right Leaves (IsTextOf written.Record image) text status → ¬ (¬ (IsMergedText text))
told_by Right Leaves image text status merged some by none =
    some (by.refused (λ right.
    let of = by.told right in
    none (record { image = image; left = of.left; merged = merged of.left of.run; spells = of.told }))).0

run_text : (meant : Result ImageParts Fault) (budget : ℕ) (harts : Option (List ℕ)) (text : List ℕ) (status : ℕ)
    → text ≢ []
    → MatchResult meant (λ image. IsRunAnswer image budget harts written.Record text status) (λ _. IsFaulty text status)
    → ¬ (¬ (IsMergedText text))
run_text (Ok image) budget harts text status some (plans, of, by) =
    told_by _ _ image text status (λ left is. is.arrived.merged) some by
run_text (Err fault) budget harts text status some faulty = λ none. some faulty.0

one_text : (meant : Result ImageParts Fault) (budget : ℕ) (harts ranks : Option (List ℕ)) (text : List ℕ) (status : ℕ)
    → text ≢ []
    → MatchResult meant (λ image. IsOne image budget harts ranks written.Record text status) (λ _. IsFaulty text status)
    → ¬ (¬ (IsMergedText text))
one_text (Ok image) budget harts ranks text status some (plans, of, by) =
    told_by _ _ image text status (λ left is. is.arrived.merged) some by
one_text (Err fault) budget harts ranks text status some faulty = λ none. some faulty.0

until_text : (meant : Result ImageParts Fault) (budget : ℕ) (harts ranks : Option (List ℕ)) (text : List ℕ) (status : ℕ)
    → text ≢ []
    → MatchResult meant (λ image. IsOneUntilStuck image budget harts ranks written.Record text status)
    (λ _. IsFaulty text status)
    → ¬ (¬ (IsMergedText text))
until_text (Ok image) budget harts ranks text status some (plans, of, by) none =
    some (by.refused (λ right. elim (by.told right) [
      | inl told ↦ none (record {
        image = image;
        left = told.left;
        merged = (told.run.0).arrived.merged;
        spells = told.told;
      })
      | inr told ↦ none (record { image = image; left = told.left; merged = (told.run.1).merged; spells = told.told })
    ])).0
until_text (Err fault) budget harts ranks text status some faulty none = some faulty.0

-- however threads ended
merged_text : (image : ImageParts) (budget : ℕ) (plans : List Plan) (text : List ℕ) (status : ℕ)
    → IsToldOfThreads image budget plans written.Record text status → IsMergedText text
merged_text image budget plans text status (inl told) =
    record { image = image; left = told.left; merged = (told.run.0).arrived.merged; spells = told.told }
merged_text image budget plans text status (inr (inl told)) =
    record { image = image; left = told.left; merged = (told.run.0).arrived.merged; spells = told.told }
merged_text image budget plans text status (inr (inr told)) =
    record { image = image; left = told.left; merged = (told.run.0).arrived.merged; spells = told.told }

threads_text : (meant : Result ImageParts Fault) (budget : ℕ) (harts : Option (List ℕ)) (text : List ℕ) (status : ℕ)
    → text ≢ []
    → MatchResult meant (λ image. IsThreadsUntilStuck image budget harts written.Record text status)
    (λ _. IsFaulty text status)
    → ¬ (¬ (IsMergedText text))
threads_text (Ok image) budget harts text status some (plans, of, by) none =
    some (by.refused (λ right. none (merged_text image budget plans text status (by.told right)))).0
threads_text (Err fault) budget harts text status some faulty none = some faulty.0

pub recorded_is_good : RecordedIsGoodLaw
recorded_is_good (OfImage source (Run budget plan lead written.Record)) bytes text told status ended asked says some checked =
    good_text text told ended (run_text (image_in source bytes) budget plan text status some says) checked
recorded_is_good (OfImage source (One budget plan order written.Record)) bytes text told status ended asked says some checked =
    good_text text told ended (one_text (image_in source bytes) budget plan order text status some says) checked
recorded_is_good (OfImage source (OneUntilStuck budget plan order written.Record)) bytes text told status ended asked says some checked =
    good_text text told ended (until_text (image_in source bytes) budget plan order text status some says) checked
recorded_is_good (OfImage source (RunUntilStuck budget plan lead written.Record)) bytes text told status ended asked says some checked =
    good_text text told ended (threads_text (image_in source bytes) budget plan text status some says) checked
recorded_is_good other bytes text told status ended asked says some checked = absurd (true≢false (sym asked))
