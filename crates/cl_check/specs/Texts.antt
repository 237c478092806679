-- What a check of a record's text finds as it reads it.
use Rattle.std.specs.Prelude.{ℕ, ◌≡◌, ◌+◌, ◌≤◌, List, [], ◌++◌, length, MatchResult, Option, None, Some, Result, Ok}
use Rattle.std.specs.List.{last_or}
use Rattle.rv_image_types.specs.declared.images.ImageParts.{ImageParts}
use Rattle.cl_machine.specs.Laws.{ComesAfter}
use Rattle.cl_machine.specs.Order.{InOrder}
use Rattle.cl_machine.specs.declared.steps.Step.{Step}
use Rattle.cl_state.specs.declared.state.RankState.{RankState}
use Rattle.cl_text.specs.Reading.{◌>>=◌, all_read}
use Rattle.cl_text.specs.ReadingAnswers.{IsFaultOf, read_on}
use Rattle.cl_text.specs.declared.faults.RecordFault.{RecordFault}
use Rattle.cl_replay.specs.declared.states.ClusterState.{ClusterState}
use Rattle.cl_replay.specs.Replaying.{IsReached}
use Rattle.cl_replay.specs.Steps.{Leads, LeadsNowhere}
use Rattle.cl_replay.specs.Walking.{GoesOn, HartAt, HartGoesOn}
use Rattle.cl_check.specs.declared.checking.Verdict.{Verdict}
use Rattle.cl_check.specs.declared.texts.Checked.{Checked}
use Rattle.cl_check.specs.declared.texts.Front.{Front}
use Rattle.cl_check.specs.declared.texts.Gone.{Gone}
use Rattle.cl_check.specs.Checks.{IsVerdict}

-- ---- the last step

-- whose a step is, and its stamp
abbrev pub front_of : Step → Front
front_of step = record { rank = step.rank; hart = step.hart; stamp = step.stamp }

-- the last of these steps, if there is one
abbrev pub EndsWith : List Step → Option Front → Type 0
EndsWith done None = done ≡ []
EndsWith done (Some front) = (step : Step) × (last_or None done ≡ Some step) × (front ≡ front_of step)

-- the next step comes after the last one, and the machine has it
pub record IsGoodNext (last : Option Front) (old : ClusterState) (step : Step) (new : ClusterState) : Type 0 where
  pub leads : Leads old step new
  pub after : (done : List Step) → EndsWith done last → ComesAfter (last_or None done) step

-- where it comes after the last one, the machine doesn't have it
abbrev pub IsBadNext : Option Front → ClusterState → Step → Type 0
IsBadNext last old step =
    (done : List Step) → EndsWith done last → ComesAfter (last_or None done) step → LeadsNowhere old step

-- ---- steps that are taken of the bytes

-- where these steps are taken of the bytes, all that is read stays the same
abbrev pub ReadsTo : ImageParts → List ℕ → List Step → List ℕ → Type 0
ReadsTo image bytes run rest =
    (total count : ℕ) (done : List Step) → length done + length run ≤ count
    → read_on total image count (done ++ run) rest ≡ read_on total image count done bytes

-- behind a step of this front, these steps end with one of the other
abbrev pub EndsLater : List Step → Front → Front → Type 0
EndsLater run last new = (done : List Step) → EndsWith done (Some last) → EndsWith (done ++ run) (Some new)

-- the hart of the last step did the steps that were taken
pub record HasRun (image : ImageParts) (last : Front) (old : HartAt) (bytes : List ℕ) (new : HartAt) (rest : List ℕ)
    : Type 0 where
  pub run : List Step
  pub many : last.stamp + length run ≡ new.clock
  pub goes : HartGoesOn run (record { rank = last.rank; hart = last.hart }) old (length run) new
  pub reads : ReadsTo image bytes run rest
  pub ends : EndsLater run last (record last { stamp = new.clock })

-- and so did its rank
pub record RankHasRun (image : ImageParts) (last : Front) (old : RankState) (bytes : List ℕ) (gone : Gone) (new : RankState)
    : Type 0 where
  pub run : List Step
  pub many : length run ≡ gone.count
  pub goes : (done : List Step) → EndsWith done (Some last)
      → GoesOn (done ++ run) last.rank (length done) old (length done + length run) new
  pub reads : ReadsTo image bytes run gone.rest.now
  pub ends : EndsLater run last gone.last

-- these steps are a run in order, which leads to the state
pub record IsAfter (image : ImageParts) (done : List Step) (state : ClusterState) : Type 0 where
  pub reached : IsReached image done (length done) state
  pub in_order : InOrder (λ (e : Step). e.stamp) (λ (e : Step). e.rank) done

-- and so did the cluster
pub record HaveRun (image : ImageParts) (last : Front) (old : ClusterState) (bytes : List ℕ) (gone : Gone)
    (new : ClusterState) : Type 0 where
  pub run : List Step
  pub many : length run ≡ gone.count
  pub leads : (done : List Step) → EndsWith done (Some last) → (i : ImageParts) → IsAfter i done old
      → IsAfter i (done ++ run) new
  pub reads : ReadsTo image bytes run gone.rest.now
  pub ends : EndsLater run last gone.last

-- ---- what is found

-- so many steps are done, which lead to the state, and what is read of the rest is what all is read as
pub record IsCheckedTo (total : ℕ) (image : ImageParts) (count : ℕ) (bytes : List ℕ) (n : ℕ) (last : Option Front)
    (rest : List ℕ) (state : ClusterState) : Type 0 where
  pub done : List Step
  pub number : length done ≡ n
  pub within : n ≤ count
  pub ends : EndsWith done last
  pub reads : read_on total image count done rest ≡ read_on total image count [] bytes
  pub after : IsAfter image done state

-- what is read behind these steps, up to the end
abbrev pub read_out_of : ℕ → ImageParts → ℕ → List Step → List ℕ → Result (ImageParts × List Step) RecordFault
read_out_of total image count done bytes = read_on total image count done bytes >>= all_read total image

-- there are steps up to the end, so many in all; or the fault is the one that is read
abbrev pub ReadsOut : {A : Type 0} → ℕ → ImageParts → ℕ → ℕ → List ℕ → Result A RecordFault → Type 0
ReadsOut total image count from bytes answer =
    (done : List Step) → length done ≡ from → MatchResult answer
    (λ _. (more : List Step) × (length (done ++ more) ≡ count)
    × (read_out_of total image count done bytes ≡ Ok (image, done ++ more)))
    (IsFaultOf (read_out_of total image count done bytes))

-- the verdict on what is read, which is so many steps; or the fault is the one that is read
abbrev pub HasFound : Result (ImageParts × List Step) RecordFault → ℕ → Result Verdict RecordFault → Type 0
HasFound read count answer = MatchResult answer
    (λ verdict. (image : ImageParts) × (steps : List Step) × (read ≡ Ok (image, steps)) × (length steps ≡ count)
    × IsVerdict image steps verdict)
    (IsFaultOf read)

-- the verdict on the record that is read, and how many steps it has
pub record IsCheckOf (read : Result (ImageParts × List Step) RecordFault) (checked : Checked) : Type 0 where
  pub image : ImageParts
  pub steps : List Step
  pub is : read ≡ Ok (image, steps)
  pub many : checked.steps ≡ length steps
  pub found : IsVerdict image steps checked.verdict
