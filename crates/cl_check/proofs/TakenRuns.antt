-- Instructions of one hart that are taken of a record's bytes.
use Rattle.std.specs.Prelude.{ℕ, zero, suc, ◌+◌, ◌-◌, ◌<◌, ◌^◌, ◌≡◌, List, [], ◌∷◌, ◌++◌, None, Some, Ok, length, slice_get, false}
use Rattle.std.specs.List.{last_or}
use Rattle.std.proofs.Common.{refl, sym, ap, ◌∙◌, subst, arith}
use Rattle.std.proofs.lemmas.List.{length-append, length_push, take_all}
use Rattle.rv_hart.specs.Stepped.{stepped}
use Rattle.rv_hart.specs.declared.state.Mode.TheVariants.{Running}
use Rattle.rv_image_types.specs.declared.images.ImageParts.{ImageParts}
use Rattle.rv_memory.specs.Access.{word_at}
use Rattle.cl_machine.specs.declared.steps.Step.{Step}
use Rattle.cl_state.specs.Asked.{is_ecall}
use Rattle.cl_state.specs.declared.state.RankState.{RankState}
use Rattle.cl_trace.specs.declared.events.Kind.{Kind}
use Rattle.cl_text.specs.Reading.{step_at}
use Rattle.cl_text.specs.ReadingAnswers.{read_on}
use Rattle.cl_text.proofs.Loop.{read_more}
use Rattle.cl_replay.specs.declared.states.ClusterState.{ClusterState}
use Rattle.cl_replay.specs.Replaying.{IsReached}
use Rattle.cl_replay.specs.Walking.{GoesOn, HartAt, HartGoesOn, HasHart, StandsIn, with_hart, with_rank}
use Rattle.cl_replay.proofs.Orders.{StepsInOrder}
use Rattle.cl_replay.proofs.Walks.{goes_nowhere, hart_more, hart_nowhere}
use Rattle.cl_check.specs.declared.texts.Front.{Front}
use Rattle.cl_check.specs.declared.texts.Gone.{Gone}
use Rattle.cl_check.specs.Texts.{EndsWith, HasRun, HaveRun, IsAfter, RankHasRun}
use Rattle.cl_check.proofs.Taken.{append-append, append-nil, at_seam, last_pushed, still_in_order, still_reached}

-- ---- lists

-- what stands in a list stands there in one that goes on
get_further : {X : Type 0} (xs more : List X) (k : ℕ) (x : X) → slice_get xs k ≡ Some x
    → slice_get (xs ++ more) k ≡ Some x
get_further [] more k x at = absurd (cc)
get_further (y ∷ xs) more zero x at = at
get_further (y ∷ xs) more (suc k) x at = get_further xs more k x at

-- and what stands in the list behind stands behind the first
get_behind : {X : Type 0} (done run : List X) (k : ℕ) → slice_get (done ++ run) (length done + k) ≡ slice_get run k
get_behind [] run k = let none : 0 + k ≡ k = omega arith in ap (slice_get run) none
get_behind (y ∷ done) run k =
    let one : length (y ∷ done) + k ≡ suc (length done + k) = omega arith in
    ap (slice_get (y ∷ (done ++ run))) one ∙ get_behind done run k

-- the last stands at the end
last_from : {X : Type 0} (y : X) (ys : List X) (x : X) → last_or (Some y) ys ≡ Some x
    → slice_get (y ∷ ys) (length ys) ≡ Some x
last_from y [] x is = is
last_from y (z ∷ zs) x is = last_from z zs x is

last_there : {X : Type 0} (done : List X) (x : X) → last_or None done ≡ Some x
    → (0 < length done) × (slice_get done (length done - 1) ≡ Some x)
last_there [] x is = absurd (cc)
last_there (y ∷ ys) x is =
    let back : length (y ∷ ys) - 1 ≡ length ys = omega arith in
    (omega arith, ap (slice_get (y ∷ ys)) back ∙ last_from y ys x is)

-- ---- of a hart

-- none is taken
pub none_run : (image : ImageParts) (last : Front) (at : HartAt) (bytes : List ℕ) → at.clock ≡ last.stamp
    → HasRun image last at bytes at bytes
none_run image last at bytes clock = record {
  run = [];
  many = omega (arith, clock);
  goes = hart_nowhere [] (record { rank = last.rank; hart = last.hart }) at;
  reads = λ total count done few. ap (λ es. read_on total image count es bytes) (append-nil done);
  ends = λ done ends.
      subst (λ es. EndsWith es (Some (record last { stamp = at.clock }))) (sym (append-nil done))
      (subst (λ t. EndsWith done (Some (record last { stamp = t }))) (sym clock) ends);
}

-- what a hart did of steps it did of a list that goes on
longer_run : (run more : List Step) (last : Front) (old : HartAt) (n : ℕ) (new : HartAt)
    → HartGoesOn run (record { rank = last.rank; hart = last.hart }) old n new
    → HartGoesOn (run ++ more) (record { rank = last.rank; hart = last.hart }) old n new
longer_run run more last old n new so = record {
  goes = λ steps from rank stands has. so.goes steps from rank (first stands) has;
  stamp = λ steps from stands. so.stamp steps from (first stands);
}
  where
    first : {steps : List Step} {from : ℕ} → StandsIn (run ++ more) steps from old.clock
        → StandsIn run steps from old.clock
    first stands = record {
      behind = stands.behind;
      last = stands.last;
      before = stands.before;
      stamp = stands.stamp;
      each = λ k e at. stands.each k e (get_further run more k e at);
    }

-- the instruction of the last step's hart at this stamp
abbrev pub plain_of : Front → ℕ → Step
plain_of last stamp = record { rank = last.rank; hart = last.hart; stamp = stamp; kind = Kind.Plain }

-- one more is taken
pub run_more : (image : ImageParts) (last : Front) (old mid new : HartAt) (bytes rest after : List ℕ)
    → HasRun image last old bytes mid rest
    → ((total n : ℕ) → step_at total image n rest ≡ Ok (plain_of last (mid.clock + 1), after))
    → mid.clock + 1 < 2 ^ 62 → mid.hart.mode ≡ Running → is_ecall (word_at mid.memory mid.hart.pc) ≡ false
    → new.hart ≡ (stepped mid.hart mid.memory).state → new.memory ≡ (stepped mid.hart mid.memory).memory
    → new.clock ≡ mid.clock + 1 → HasRun image last old bytes new after
run_more image last old mid new bytes rest after so taken low running no_call goes_hart goes_memory clock = record {
  run = run;
  many = omega (arith, so.many, clock, long);
  goes = subst (λ n. HartGoesOn run (record { rank = last.rank; hart = last.hart }) old n new) (sym long)
      (hart_more run (record { rank = last.rank; hart = last.hart }) old (length so.run) mid
      (longer_run so.run (step ∷ []) last old (length so.run) mid so.goes)
      step at refl refl refl refl low new running no_call goes_hart goes_memory clock);
  reads = λ total count done few.
      let seam = append-append done so.run (step ∷ []) in
      let far : length (done ++ so.run) < count = omega (arith, length-append done so.run, long, few) in
      ap (λ es. read_on total image count es after) (sym seam)
      ∙ read_more total count image (done ++ so.run) rest after step far (taken total (length (done ++ so.run)))
      ∙ so.reads total count done (omega (arith, long, few));
  ends = λ done ends. (
    step,
    ap (last_or None) (sym (append-append done so.run (step ∷ []))) ∙ last_pushed None (done ++ so.run) step,
    ap (λ (t : ℕ). record last { stamp = t }) clock,
  );
}
  where
    step : Step
    step = plain_of last (mid.clock + 1)

    run : List Step
    run = so.run ++ step ∷ []

    long : length run ≡ length so.run + 1
    long = length_push so.run step

    at : slice_get run (length so.run) ≡ Some step
    at = at_seam so.run [] step

-- ---- of a rank

pub rank_none : (image : ImageParts) (last : Front) (state : RankState) (bytes : List ℕ) (gone : Gone)
    → gone.last ≡ last → gone.count ≡ 0 → gone.rest.now ≡ bytes → RankHasRun image last state bytes gone state
rank_none image last state bytes gone same count rest = record {
  run = [];
  many = sym count;
  goes = λ done ends.
      let none : length done ≡ length done + 0 = omega arith in
      subst (λ n. GoesOn (done ++ []) last.rank (length done) state n state) none
      (goes_nowhere (done ++ []) last.rank (length done) state);
  reads = λ total count done few.
      ap (λ bs. read_on total image count (done ++ []) bs) rest
      ∙ ap (λ es. read_on total image count es bytes) (append-nil done);
  ends = λ done ends.
      subst (λ es. EndsWith es (Some gone.last)) (sym (append-nil done))
      (subst (λ f. EndsWith done (Some f)) (sym same) ends);
}

pub rank_runs : (image : ImageParts) (last : Front) (state : RankState) (old new : HartAt) (bytes : List ℕ) (gone : Gone)
    → HasRun image last old bytes new gone.rest.now → HasHart state last.hart old → old.clock ≡ last.stamp
    → gone.last ≡ record last { stamp = new.clock } → last.stamp + gone.count ≡ new.clock
    → RankHasRun image last state bytes gone (with_hart state last.hart new)
rank_runs image last state old new bytes gone so has clock front count = record {
  run = so.run;
  many = omega (arith, so.many, count);
  goes = λ done ends. so.goes.goes (done ++ so.run) (length done) state (stands done ends) has;
  reads = so.reads;
  ends = λ done ends. subst (λ f. EndsWith (done ++ so.run) (Some f)) (sym front) (so.ends done ends);
}
  where
    stands : (done : List Step) → EndsWith done (Some last) → StandsIn so.run (done ++ so.run) (length done) old.clock
    stands done ends =
        let there = last_there done ends.0 ends.1 in
        record {
          behind = there.0;
          last = ends.0;
          before = get_further done so.run (length done - 1) ends.0 there.1;
          stamp = sym (ap (λ (f : Front). f.stamp) ends.2) ∙ sym clock;
          each = λ k e at. get_behind done so.run k ∙ at;
        }

-- ---- of a cluster

pub none_ran : (image : ImageParts) (last : Front) (state : ClusterState) (bytes : List ℕ) (gone : Gone)
    → gone.last ≡ last → gone.count ≡ 0 → gone.rest.now ≡ bytes → HaveRun image last state bytes gone state
none_ran image last state bytes gone same count rest = record {
  run = [];
  many = sym count;
  leads = λ done ends i after. subst (λ es. IsAfter i es state) (sym (append-nil done)) after;
  reads = λ total count done few.
      ap (λ bs. read_on total image count (done ++ []) bs) rest
      ∙ ap (λ es. read_on total image count es bytes) (append-nil done);
  ends = λ done ends.
      subst (λ es. EndsWith es (Some gone.last)) (sym (append-nil done))
      (subst (λ f. EndsWith done (Some f)) (sym same) ends);
}

pub all_ran : (image : ImageParts) (last : Front) (state : ClusterState) (old new : RankState) (bytes : List ℕ) (gone : Gone)
    → slice_get state.ranks.items last.rank ≡ Some old → RankHasRun image last old bytes gone new
    → HaveRun image last state bytes gone (with_rank state last.rank new)
all_ran image last state old new bytes gone there so = record {
  run = so.run;
  many = so.many;
  leads = λ done ends i after.
      let steps = done ++ so.run in
      let goes = so.goes done ends in
      let reached = still_reached i done so.run state after in
      let order = still_in_order i done so.run state after in
      let long : length done + length so.run ≡ length steps = sym (length-append done so.run) in
      record {
        reached = subst (λ n. IsReached i steps n (with_rank state last.rank new)) long
            (goes.leads state there i reached);
        in_order = subst StepsInOrder (take_all (length done + length so.run) steps (omega (arith, long)))
            (goes.order state there i reached order);
      };
  reads = so.reads;
  ends = so.ends;
}
