-- What stands on the output is what the command line says of the bytes.
use Rattle.std.proofs.Common.{◌≡◌, ◌≤◌, ℕ, ◌∙◌, List, [], Option, Some, None, ap, length, inl, inr, refl, sym, subst, append-nil}
use Rattle.std.specs.Prelude.{◌⊎◌, Bool, IfOk, IfErr, IfSome, MatchResult, Result, Ok, Err, true}
use Rattle.std.specs.Io.KnownBytes.{Appends, Keeps}
use Rattle.cl_machine.specs.declared.steps.Step.{Step}
use Rattle.cl_text.specs.Reading.{reading_record}
use Rattle.cl_text.specs.declared.faults.RecordFault.{RecordFault}
use Rattle.rv_image_types.specs.declared.images.ImageParts.{ImageParts}
use Rattle.rvmc_line.specs.declared.line.CommandLine.{CommandLine}
use Rattle.rvmc_line.specs.declared.line.CommandLine.TheVariants.{Join, OfImage, OfRecord, Session, WordSession}
use Rattle.rvmc_line.specs.declared.line.ImageCommand.{ImageCommand}
use Rattle.rvmc_line.specs.declared.line.ImageCommand.TheVariants.{Explore, ExploreFrom, One, OneUntilStuck, Run, RunUntilStuck, Split}
use Rattle.rvmc_line.specs.declared.line.RecordCommand.{RecordCommand}
use Rattle.rvmc_answers.specs.Below.{ExploreRefusal, Fault, fault_status}
use Rattle.rvmc_answers.specs.Below.explored as refusals
use Rattle.rvmc_answers.specs.Below.faults
use Rattle.rvmc_tool.specs.Answers.{HasThreads, Makes, Says}
use Rattle.rvmc_answers.specs.Ends.{IsFaulty, end_status}
use Rattle.rvmc_tool.specs.Exploring.{IsToldOfSearch}
use Rattle.rvmc_answers.specs.Images.{image_in}
use Rattle.rvmc_tool.specs.Making.{IsFaultOf, IsMisplanned, IsUnexplored, RefusesImage}
use Rattle.rvmc_views.specs.Faults.{IsReadFault}
use Rattle.rvmc_answers.specs.Outputs.{output_bytes}
use Rattle.rvmc_answers.specs.Plans.{listed}
use Rattle.rvmc_views.specs.Records.{SaysOfSteps, is_in_pieces, part_behind, record_part}
use Rattle.rvmc_answers.specs.Taking.{IsFaultIn}
use Rattle.rvmc_answers.specs.declared.answers.Answer.{Answer}
use Rattle.rvmc_views.specs.Pieces.{LeavesPieces}
use Rattle.rvmc_tool.specs.Made.{TellsPieces, TellsSearch}
use Rattle.rvmc_tool.specs.Tool.{Answers, IsCutShort, IsRefused, IsSaid, IsUnlike}
use Rattle.rvmc_tool.specs.Plain.{IsWhole, Tells}

-- wrong plans are a fault of the input
misplanned : (command : ImageCommand) (image : ImageParts) → IsMisplanned command image → Makes command image [] 1
misplanned (Run budget plan lead written) image (plans, of, wrong) =
    (plans, of, record { told = λ right. absurd (wrong right); refused = λ _. (refl, refl) })
misplanned (RunUntilStuck budget plan lead written) image (plans, of, wrong) =
    (plans, of, record { told = λ right. absurd (wrong right); refused = λ _. (refl, refl) })
misplanned (One budget plan order written) image (plans, of, wrong) =
    (plans, of, record { told = λ right. absurd (wrong right); refused = λ _. (refl, refl) })
misplanned (OneUntilStuck budget plan order written) image (plans, of, wrong) =
    (plans, of, record { told = λ right. absurd (wrong right); refused = λ _. (refl, refl) })
misplanned (Explore plan states turns number buffered progress) image (plans, of, wrong) =
    (plans, of, record { told = λ right. absurd (wrong right); refused = λ _. (refl, refl) })
misplanned (Split plan count turns progress) image (plans, of, wrong) =
    (plans, of, record { told = λ right. absurd (wrong right); refused = λ _. (refl, refl) })
misplanned (ExploreFrom start states turns number buffered progress) image (plans, of, wrong) =
    (plans, of, record { told = λ right. absurd (wrong right); refused = λ _. (refl, refl) })
misplanned other image wrong = absurd wrong

-- and so is the record of an end that isn't there, and a start that isn't one
unexplored : (command : ImageCommand) (image : ImageParts) (refusal : ExploreRefusal) → IsUnexplored command image refusal
    → Makes command image [] 1
unexplored (Explore plan states turns asked buffered progress) image (refusals.NoOutcome k) (plans, of, (right, (is, none))) = (
  plans,
  of,
  record {
    told = λ _. subst (λ o. IsToldOfSearch image (listed plan image.harts) buffered states turns o [] 1) (sym is)
        (inr (none, (refl, refl)));
    refused = λ wrong. absurd (wrong right);
  },
)
unexplored (Explore plan states turns asked buffered progress) image other (plans, of, (right, never)) = absurd never
unexplored (ExploreFrom start states turns asked buffered progress) image refusal (plans, of, (right, none)) =
    (plans, of, record { told = λ _. inr ((refusal, none), (refl, refl)); refused = λ wrong. absurd (wrong right) })
unexplored other image refusal unexplored_is = absurd unexplored_is

-- what a fault leaves: nothing, as the command line says, or for want of memory or of a thread
abbrev Leaves : ImageCommand → Result ImageParts Fault → Fault → Type 0
Leaves command meant fault =
    (MatchResult meant (λ image. Makes command image [] (fault_status fault)) (λ _. IsFaulty [] (fault_status fault))
    ⊎ (IsFaulty [] (fault_status fault) × MatchResult meant (λ image. HasThreads command image) (λ _. ⊥)))
    ⊎ IsRefused [] (fault_status fault)

leaves : (command : ImageCommand) (meant : Result ImageParts Fault) (fault : Fault)
    → MatchResult meant (λ image. RefusesImage command image fault) (λ _. IsFaultIn meant fault)
    → Leaves command meant fault
leaves command (Ok image) faults.Plans is = inl (inl (misplanned command image is))
leaves command (Ok image) (faults.Unlike rank place) is = inl (inr ((refl, refl), is))
leaves command (Ok image) (faults.Explore refusal) is = inl (inl (unexplored command image refusal is))
leaves command (Ok image) faults.Memory is = inr (refl, refl)
leaves command (Ok image) faults.Spawn is = inr (refl, refl)
leaves command (Ok image) other is = absurd is
leaves command (Err meant) (faults.Source fault) is = inl (inl (refl, refl))
leaves command (Err meant) (faults.Image fault) is = inl (inl (refl, refl))
leaves command (Err meant) faults.Memory is = inr (refl, refl)
leaves command (Err meant) other is = absurd is

-- what is said of a reading, where the output is empty
abbrev SaysNothing : RecordCommand → List ℕ → Result (ImageParts × List Step) RecordFault → Fault → Type 0
SaysNothing command behind read fault =
    MatchResult read (λ found. SaysOfSteps command behind found.0 found.1 [] (fault_status fault))
    (λ _. IsFaulty [] (fault_status fault))

leaves_read : (command : RecordCommand) (behind : List ℕ) (read : Result (ImageParts × List Step) RecordFault)
    (fault : Fault) → IsReadFault command read fault
    → SaysNothing command behind read fault ⊎ IsRefused [] (fault_status fault)
leaves_read command behind read faults.Memory is = inr (refl, refl)
leaves_read command behind (Ok found) fault is = inl (inr (fault, is, refl, refl))
leaves_read command behind (Err meant) fault is = inl (refl, ap fault_status is)

-- what a fault leaves, of whatever a command takes
abbrev LeavesOf : CommandLine → List ℕ → Fault → Type 0
LeavesOf line bytes fault =
    (Says line bytes [] (fault_status fault) ⊎ IsUnlike line bytes [] (fault_status fault))
    ⊎ IsRefused [] (fault_status fault)

leaves_of : (line : CommandLine) (bytes : List ℕ) (fault : Fault) → IsFaultOf line bytes fault
    → LeavesOf line bytes fault
leaves_of (OfImage source command) bytes fault is = leaves command (image_in source bytes) fault is
leaves_of (Session rank) bytes fault is = absurd is
leaves_of WordSession bytes fault is = absurd is
leaves_of Join bytes faults.Memory is = inr (refl, refl)
leaves_of Join bytes (faults.Explore refusal) is = inl (inl (inr ((refusal, is), (refl, refl))))
leaves_of Join bytes other is = absurd is
leaves_of (OfRecord command) bytes fault is =
    go (leaves_read command (part_behind command bytes) (reading_record (record_part command bytes)) fault is)
  where
    go : SaysNothing command (part_behind command bytes) (reading_record (record_part command bytes)) fault ⊎ IsRefused [] (fault_status fault)
        → LeavesOf (OfRecord command) bytes fault
    go (inl says) = inl (inl says)
    go (inr refused) = inr refused

-- what stays grows by nothing
pub nothing_more : (old new : Option (List ℕ)) → Keeps old new → Appends old new []
nothing_more None new keeps = tt
nothing_more (Some xs) None keeps = keeps
nothing_more (Some xs) (Some ys) keeps = keeps ∙ sym (append-nil xs)

-- an answer that is what the command line says, or a fault that is, as it is told
pub answered : (line : CommandLine) (bytes : List ℕ) (answer : Result Answer Fault) (status : ℕ)
    (old new : Option (List ℕ)) → length bytes ≤ 67108864
    → IfOk answer (λ a. Says line bytes (output_bytes a.output) (end_status a.end)) → IfErr answer (IsFaultOf line bytes)
    → Tells answer status old new → Answers line bytes status old new
answered line bytes (Ok answer) status old new short says fault (is, grows) =
    let told = subst (λ s. Says line bytes (output_bytes answer.output) s) (sym is) says in
    (output_bytes answer.output, inl (record { short = λ _. short; says = inl told }), grows)
answered line bytes (Err fault) status old new short says is (status_is, keeps) =
    ([], go (leaves_of line bytes fault is), nothing_more old new keeps)
  where
    go : LeavesOf line bytes fault
        → IsSaid line bytes [] status ⊎ (IsRefused [] status ⊎ IsCutShort line bytes [] status)
    go (inl (inl made)) =
        inl (record { short = λ _. short; says = inl (subst (λ s. Says line bytes [] s) (sym status_is) made) })
    go (inl (inr unlike)) =
        inl (record { short = λ _. short; says = inr (subst (λ s. IsUnlike line bytes [] s) (sym status_is) unlike) })
    go (inr refused) = inr (inl (subst (λ s. IsRefused [] s) (sym status_is) refused))

-- the same of all bytes of an input
pub obeyed : (line : CommandLine) (known : Option (List ℕ)) (bytes taken whole : List ℕ) (answer : Result Answer Fault)
    (status : ℕ) (old new : Option (List ℕ)) → known ≡ Some bytes → IsWhole known taken → whole ≡ taken
    → IfOk answer (λ a. Says line whole (output_bytes a.output) (end_status a.end)) → IfErr answer (IsFaultOf line whole)
    → Tells answer status old new → Answers line bytes status old new
obeyed line known bytes taken whole answer status old new is has same says fault tells =
    let all : taken ≡ bytes = subst (λ (k : Option (List ℕ)). IfSome k (λ b. taken ≡ b)) is has.all in
    let short : length whole ≤ 67108864 = subst (λ (b : List ℕ). length b ≤ 67108864) (sym same) has.short in
    subst (λ (b : List ℕ). Answers line b status old new) (same ∙ all)
    (answered line whole answer status old new short says fault tells)

-- what is written in pieces, whole or cut short, or the fault in its place
module _ (command : RecordCommand) (pieces : is_in_pieces command ≡ true) where
  pieces_so : (bytes : List ℕ) (status : ℕ) (old new : Option (List ℕ)) → length bytes ≤ 67108864
      → TellsPieces command bytes status old new → Answers (OfRecord command) bytes status old new
  pieces_so bytes status old new short tells = go tells
    where
      nothing : (fault : Fault) → IsReadFault command (reading_record (record_part command bytes)) fault
          → status ≡ fault_status fault → Keeps old new → Answers (OfRecord command) bytes status old new
      nothing fault is status_is keeps =
          answered (OfRecord command) bytes (Err fault) status old new short tt is (status_is, keeps)

      by : (fault : Fault) → IsReadFault command (reading_record (record_part command bytes)) fault
          → status ≡ fault_status fault → LeavesPieces command bytes fault old new
          → Answers (OfRecord command) bytes status old new
      by faults.Memory is status_is (inl keeps) = nothing faults.Memory is status_is keeps
      by faults.Memory is status_is (inr begun) = (
        begun.front,
        inr (inr (pieces, status_is, begun.text, record { short = λ _. short; says = inl begun.says }, begun.begins)),
        begun.there,
      )
      by other is status_is keeps = nothing other is status_is keeps

      go : TellsPieces command bytes status old new → Answers (OfRecord command) bytes status old new
      go (inl (done, all)) = (
        all.text,
        inl (record {
          short = λ _. short;
          says = inl (subst (λ s. Says (OfRecord command) bytes all.text s) (sym done) all.says);
        }),
        all.there,
      )
      go (inr (fault, is, status_is, left)) = by fault is status_is left

  -- the same of all bytes of an input
  pub obeyed_in_pieces : (known : Option (List ℕ)) (bytes taken whole : List ℕ) (status : ℕ)
      (old new : Option (List ℕ)) → known ≡ Some bytes → IsWhole known taken → whole ≡ taken
      → TellsPieces command whole status old new → Answers (OfRecord command) bytes status old new
  obeyed_in_pieces known bytes taken whole status old new is has same tells =
      let all : taken ≡ bytes = subst (λ (k : Option (List ℕ)). IfSome k (λ b. taken ≡ b)) is has.all in
      let short : length whole ≤ 67108864 = subst (λ (b : List ℕ). length b ≤ 67108864) (sym same) has.short in
      subst (λ (b : List ℕ). Answers (OfRecord command) b status old new) (same ∙ all)
      (pieces_so whole status old new short tells)

-- what a search tells, whole or cut short, or the fault in its place
module _ (source : Bool) (command : ImageCommand) where
  search_so : (bytes : List ℕ) (status : ℕ) (old new : Option (List ℕ)) → length bytes ≤ 67108864
      → TellsSearch source command bytes status old new → Answers (OfImage source command) bytes status old new
  search_so bytes status old new short (inl (text, says, there)) =
      (text, inl (record { short = λ _. short; says = inl says }), there)
  search_so bytes status old new short (inr (fault, is, status_is, inl keeps)) =
      answered (OfImage source command) bytes (Err fault) status old new short tt is (status_is, keeps)
  search_so bytes status old new short (inr (fault, is, status_is, inr (memory, text, cut, there))) =
      (text, inr (inr (status_is ∙ ap fault_status memory, short, cut)), there)

  -- the same of all bytes of an input
  pub obeyed_by_search : (known : Option (List ℕ)) (bytes taken whole : List ℕ) (status : ℕ)
      (old new : Option (List ℕ)) → known ≡ Some bytes → IsWhole known taken → whole ≡ taken
      → TellsSearch source command whole status old new → Answers (OfImage source command) bytes status old new
  obeyed_by_search known bytes taken whole status old new is has same tells =
      let all : taken ≡ bytes = subst (λ (k : Option (List ℕ)). IfSome k (λ b. taken ≡ b)) is has.all in
      let short : length whole ≤ 67108864 = subst (λ (b : List ℕ). length b ≤ 67108864) (sym same) has.short in
      subst (λ (b : List ℕ). Answers (OfImage source command) b status old new) (same ∙ all)
      (search_so whole status old new short tells)
