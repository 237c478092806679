-- Steps that are checked as they are read.
use Rattle.std.specs.Prelude.{ℕ, ◌+◌, ◌-◌, ◌<◌, ◌≤◌, ◌≡◌, List, [], ◌∷◌, ◌++◌, MatchResult, Option, None, Some, Result, Ok, Err, length, slice_get, take}
use Rattle.std.specs.List.{last_or}
use Rattle.std.proofs.Common.{refl, sym, ap, ◌∙◌, subst, arith}
use Rattle.std.proofs.lemmas.List.{length-append, length_push, take_all}
use Rattle.std.proofs.Math.Seq.{take-append_seam, take-length}
use Rattle.rv_image_types.specs.declared.images.ImageParts.{ImageParts}
use Rattle.cl_machine.specs.Cluster.{IsRun, loaded_cluster}
use Rattle.cl_machine.specs.Laws.{ComesAfter}
use Rattle.cl_machine.specs.declared.steps.Step.{Step}
use Rattle.cl_text.specs.Reading.{◌>>=◌, all_read, next_step, repeated, step_at, steps_counted}
use Rattle.cl_text.specs.ReadingAnswers.{GivesBy, IsFaultOf, read_on}
use Rattle.cl_text.specs.declared.faults.RecordFault.TheVariants as faults
use Rattle.cl_text.specs.declared.faults.RecordFault.{RecordFault}
use Rattle.cl_text.proofs.Loop.{read_all, read_fails, read_more, told_as}
use Rattle.cl_replay.specs.declared.states.ClusterState.{ClusterState}
use Rattle.cl_replay.specs.Replaying.{IsReached}
use Rattle.cl_replay.proofs.Orders.{StepsInOrder, order_more}
use Rattle.cl_replay.proofs.Runs.{reached_more}
use Rattle.cl_check.specs.declared.checking.Verdict.{Verdict}
use Rattle.cl_check.specs.declared.texts.Front.{Front}
use Rattle.cl_check.specs.declared.texts.Gone.{Gone}
use Rattle.cl_check.specs.Checks.{IsVerdict}
use Rattle.cl_check.specs.Texts.{EndsWith, HaveRun, IsAfter, IsBadNext, IsCheckedTo, IsGoodNext, front_of, read_out_of}
use Rattle.cl_check.proofs.Verdicts.{good_at_end, no_next, so_far}

-- ---- lists

pub append-nil : {X : Type 0} (xs : List X) → xs ++ [] ≡ xs
append-nil [] = refl
append-nil (x ∷ xs) = ap (λ ys. x ∷ ys) (append-nil xs)

pub append-append : {X : Type 0} (xs ys zs : List X) → (xs ++ ys) ++ zs ≡ xs ++ (ys ++ zs)
append-append [] ys zs = refl
append-append (x ∷ xs) ys zs = ap (λ rest. x ∷ rest) (append-append xs ys zs)

-- behind the steps that are done stands the next
pub at_seam : {X : Type 0} (done rest : List X) (x : X) → slice_get (done ++ x ∷ rest) (length done) ≡ Some x
at_seam [] rest x = refl
at_seam (y ∷ done) rest x = at_seam done rest x

pub last_pushed : {X : Type 0} (o : Option X) (done : List X) (x : X) → last_or o (done ++ x ∷ []) ≡ Some x
last_pushed o [] x = refl
last_pushed o (y ∷ done) x = last_pushed (Some y) done x

-- ---- what leads on

module _ (image : ImageParts) (done rest : List Step) (state : ClusterState) (after : IsAfter image done state) where
  first : take (length done) (done ++ rest) ≡ done
  first = take-append_seam done rest

  -- the same in a list that goes on
  pub still_reached : IsReached image (done ++ rest) (length done) state
  still_reached = record {
    cluster = after.reached.cluster;
    run = subst (λ es. IsRun (loaded_cluster image) es after.reached.cluster) (take-length done ∙ sym first)
        after.reached.run;
    stands = after.reached.stands;
  }

  pub still_in_order : StepsInOrder (take (length done) (done ++ rest))
  still_in_order = subst StepsInOrder (sym first) after.in_order

  still_after : (step : Step) → ComesAfter (last_or None done) step
      → ComesAfter (last_or None (take (length done) (done ++ rest))) step
  still_after step h = subst (λ es. ComesAfter (last_or None es) step) (sym first) h

-- no step is done
pub none_done : (image : ImageParts) (state : ClusterState) → IsReached image [] 0 state → IsAfter image [] state
none_done image state reached = record { reached = reached; in_order = tt }

-- one step more
pub one_done : (image : ImageParts) (done : List Step) (last : Option Front) (old new : ClusterState) (step : Step)
    → EndsWith done last → IsGoodNext last old step new → IsAfter image done old
    → IsAfter image (done ++ step ∷ []) new
one_done image done last old new step ends good after =
    let steps = done ++ step ∷ [] in
    let reached = still_reached image done (step ∷ []) old after in
    let order = still_in_order image done (step ∷ []) old after in
    let there = at_seam done [] step in
    let comes = still_after image done (step ∷ []) old after step (good.after done ends) in
    let long : length done + 1 ≡ length steps = omega (arith, length_push done step) in
    record {
      reached = subst (λ n. IsReached image steps n new) long
          (reached_more image steps (length done) old reached step there new good.leads);
      in_order = subst StepsInOrder (take_all (length done + 1) steps (omega (arith, long)))
          (order_more image steps (length done) old reached order step there new good.leads comes);
    }

-- a step that isn't good is bad, whatever follows it
pub bad_found : (image : ImageParts) (done more : List Step) (last : Option Front) (state : ClusterState) (step : Step)
    → EndsWith done last → IsBadNext last state step → IsAfter image done state
    → IsVerdict image ((done ++ step ∷ []) ++ more) (Verdict.BadAt (length done))
bad_found image done more last state step ends bad after =
    subst (λ es. IsVerdict image es (Verdict.BadAt (length done))) (sym (append-append done (step ∷ []) more)) (
      omega (arith, length-append done (step ∷ more)),
      so_far image steps (length done) state reached order step there,
      no_next image steps (length done) state reached order step there
          (λ comes. bad done ends (subst (λ es. ComesAfter (last_or None es) step) (first_is) comes)),
    )
  where
    steps : List Step
    steps = done ++ step ∷ more

    reached : IsReached image steps (length done) state
    reached = still_reached image done (step ∷ more) state after

    order : StepsInOrder (take (length done) steps)
    order = still_in_order image done (step ∷ more) state after

    there : slice_get steps (length done) ≡ Some step
    there = at_seam done more step

    first_is : take (length done) steps ≡ done
    first_is = take-append_seam done (step ∷ more)

-- all steps are done
pub good_found : (image : ImageParts) (done : List Step) (state : ClusterState) → IsAfter image done state
    → IsVerdict image done Verdict.Good
good_found image done state after =
    good_at_end image done (length done) state (omega arith) after.reached
    (subst StepsInOrder (sym (take-length done)) after.in_order)

-- ---- what is read

-- with none done
pub counted_out : (total count : ℕ) (image : ImageParts) (bytes : List ℕ)
    → steps_counted total image count bytes ≡ read_out_of total image count [] bytes
counted_out total count image bytes =
    let all : count ≡ count - 0 = omega arith in
    ap (λ n. repeated (next_step total image) n [] bytes >>= all_read total image) all

-- a fault of the next step is one of all that is read
pub out_fails : (fault : RecordFault) (total count : ℕ) (image : ImageParts) (done : List Step) (bytes : List ℕ) (n : ℕ)
    → length done ≡ n → n < count → IsFaultOf (step_at total image n bytes) fault
    → IsFaultOf (read_out_of total image count done bytes) fault
out_fails fault total count image done bytes n number below told =
    told_as {one = step_at total image n bytes} fault told (λ failed.
    ap (λ read. read >>= all_read total image)
    (read_fails fault total count image done bytes (omega (arith, number, below))
    (ap (λ k. step_at total image k bytes) number ∙ failed)))

-- all are read
pub out_ends : (total count : ℕ) (image : ImageParts) (done : List Step) (bytes : List ℕ) → count ≤ length done
    → read_out_of total image count done bytes ≡ all_read total image (done, bytes)
out_ends total count image done bytes over =
    ap (λ read. read >>= all_read total image) (read_all total count image done bytes over)

-- one more is read
pub out_more : (total count : ℕ) (image : ImageParts) (done : List Step) (bytes after : List ℕ) (step : Step) (n : ℕ)
    → length done ≡ n → n < count → step_at total image n bytes ≡ Ok (step, after)
    → read_on total image count (done ++ step ∷ []) after ≡ read_on total image count done bytes
out_more total count image done bytes after step n number below goes =
    read_more total count image done bytes after step (omega (arith, number, below))
    (ap (λ k. step_at total image k bytes) number ∙ goes)

-- the same of what all is read as
pub out_fails_on : (fault : RecordFault) (total count : ℕ) (image : ImageParts) (done : List Step) (bytes : List ℕ) (n : ℕ)
    → length done ≡ n → n < count → IsFaultOf (step_at total image n bytes) fault
    → (read : Result (List Step × List ℕ) RecordFault) → read_on total image count done bytes ≡ read
    → IsFaultOf (read >>= all_read total image) fault
out_fails_on fault total count image done bytes n number below told read same =
    subst (λ (r : Result (List Step × List ℕ) RecordFault). IsFaultOf (r >>= all_read total image) fault) same
    (out_fails fault total count image done bytes n number below told)

-- a fault that is read is told as it is
pub is_told : (read : Result (ImageParts × List Step) RecordFault) (fault : RecordFault) → read ≡ Err fault
    → IsFaultOf read fault
is_told read faults.Memory is = tt
is_told read faults.Magic is = is
is_told read (faults.Short length) is = is
is_told read (faults.Long end) is = is
is_told read (faults.Step n) is = is
is_told read (faults.Image image) is = is

-- where nothing follows these steps, they are what is read
pub out_closed : {A : Type 0} (answer : Result A RecordFault) (total count : ℕ) (image : ImageParts)
    (done more : List Step) (bytes rest : List ℕ) → length (done ++ more) ≡ count
    → read_on total image count (done ++ more) rest ≡ read_on total image count done bytes
    → GivesBy (λ _. (image, done ++ more)) answer (all_read total image (done ++ more, rest))
    → MatchResult answer
    (λ _. (m : List Step) × (length (done ++ m) ≡ count)
    × (read_out_of total image count done bytes ≡ Ok (image, done ++ m)))
    (IsFaultOf (read_out_of total image count done bytes))
out_closed {A = A} answer total count image done more bytes rest long same gives = go answer gives
  where
    whole : read_out_of total image count done bytes ≡ all_read total image (done ++ more, rest)
    whole =
        sym (ap (λ read. read >>= all_read total image) same)
        ∙ out_ends total count image (done ++ more) rest (omega (arith, long))

    go : (answer : Result A RecordFault)
        → GivesBy (λ _. (image, done ++ more)) answer (all_read total image (done ++ more, rest))
        → MatchResult answer
        (λ _. (m : List Step) × (length (done ++ m) ≡ count)
        × (read_out_of total image count done bytes ≡ Ok (image, done ++ m)))
        (IsFaultOf (read_out_of total image count done bytes))
    go (Ok x) given = (more, long, whole ∙ given)
    go (Err fault) given = is_told (read_out_of total image count done bytes) fault (whole ∙ given)

-- ---- what a check came to

module _ (total : ℕ) (image : ImageParts) (count : ℕ) (bytes : List ℕ) (n : ℕ) (last : Option Front) (rest : List ℕ)
    (state : ClusterState) (so : IsCheckedTo total image count bytes n last rest state) where
  -- all are done: what is read are these steps, or there are bytes behind them
  pub counted_done : count ≤ n → steps_counted total image count bytes ≡ all_read total image (so.done, rest)
  counted_done over =
      counted_out total count image bytes
      ∙ (sym (ap (λ read. read >>= all_read total image) so.reads)
      ∙ out_ends total count image so.done rest (omega (arith, so.number, over)))

  pub counted_fails : (fault : RecordFault) → n < count → IsFaultOf (step_at total image n rest) fault
      → IsFaultOf (steps_counted total image count bytes) fault
  counted_fails fault below told =
      subst (λ (read : Result (ImageParts × List Step) RecordFault). IsFaultOf read fault)
      (sym (counted_out total count image bytes))
      (out_fails_on fault total count image so.done rest n so.number below told (read_on total image count [] bytes)
      so.reads)

  module _ (step : Step) (after : List ℕ) (below : n < count) (goes : step_at total image n rest ≡ Ok (step, after)) where
    -- with one more step
    abbrev pub with_step : List Step
    with_step = so.done ++ step ∷ []

    pub one_longer : length with_step ≡ n + 1
    one_longer = omega (arith, length_push so.done step, so.number)

    reads_step : read_on total image count with_step after ≡ read_on total image count [] bytes
    reads_step = out_more total count image so.done rest after step n so.number below goes ∙ so.reads

    -- what is read behind it is what all is read as
    pub counted_behind : steps_counted total image count bytes ≡ read_out_of total image count with_step after
    counted_behind =
        counted_out total count image bytes ∙ sym (ap (λ read. read >>= all_read total image) reads_step)

    -- it is bad, and all others are read
    pub counted_bad : IsBadNext last state step → (more : List Step) → length (with_step ++ more) ≡ count
        → read_out_of total image count with_step after ≡ Ok (image, with_step ++ more)
        → (i : ImageParts) × (steps : List Step) × (steps_counted total image count bytes ≡ Ok (i, steps))
        × (length steps ≡ count) × IsVerdict i steps (Verdict.BadAt n)
    counted_bad bad more long read = (
      image,
      with_step ++ more,
      counted_behind ∙ read,
      long,
      subst (λ k. IsVerdict image (with_step ++ more) (Verdict.BadAt k)) so.number
          (bad_found image so.done more last state step so.ends bad so.after),
    )

    -- it is good, and the hart goes on
    pub checked_further : (mid new : ClusterState) (front : Front) (gone : Gone) → IsGoodNext last state step mid
        → front ≡ front_of step → HaveRun image front mid after gone new → gone.count ≤ count - (n + 1)
        → IsCheckedTo total image count bytes (n + (1 + gone.count)) (Some gone.last) gone.rest.now new
    checked_further mid new front gone good front_is run few = record {
      done = with_step ++ run.run;
      number = omega (arith, length-append with_step run.run, one_longer, run.many);
      within = omega (arith, few, below);
      ends = run.ends with_step ends;
      reads =
          run.reads total count with_step (omega (arith, one_longer, run.many, few, below)) ∙ reads_step;
      after = run.leads with_step ends image (one_done image so.done last state mid step so.ends good so.after);
    }
      where
        ends : EndsWith with_step (Some front)
        ends = (step, last_pushed None so.done step, front_is)
