-- A text that is written piece by piece: what stands at the writer is a beginning of the text of all steps.
use Rattle.std.specs.Prelude.{ℕ, zero, suc, ◌+◌, ◌-◌, ◌<◌, ◌≤◌, ◌≡◌, max, List, [], ◌∷◌, ◌++◌, length, slice_get, take}
use Rattle.std.specs.Prelude.{Option, Some, None, IfErr, Result, Ok, Err}
use Rattle.std.specs.Io.KnownBytes.{Appends, Keeps}
use Rattle.std.proofs.Common.{refl, sym, ap, ◌∙◌, subst, append_assoc, append-nil, arith, inl, inr}
use Rattle.std.proofs.KnownBytes.{Appends-nil, Appends-trans, Keeps-refl}
use Rattle.std.proofs.lemmas.Option.{slice_get_within}
use lib.Seq.{take-append_seam}
use Rattle.rv_image_types.specs.declared.images.ImageParts.{ImageParts}
use Rattle.rv_image_types.specs.declared.images.Symbol.{Symbol}
use Rattle.rvmc_sights.proofs.Below.{run_sized}
use Rattle.cl_machine.proofs.Tables.{run_less, run_more}
use Rattle.cl_machine.specs.Cluster.{Cluster, IsRun, IsStep, loaded_cluster}
use Rattle.cl_machine.specs.declared.steps.Step.{Step}
use Rattle.cl_replay.proofs.Runs.{breaks_before, run_law, take_next}
use Rattle.cl_replay.specs.InnerReplaying.{ReplayFaultHolds, StepBreaks}
use Rattle.cl_replay.specs.Replays.{IsRunUpTo}
use Rattle.cl_replay.specs.Steps.{Leads}
use Rattle.cl_replay.specs.declared.replaying.ReplayFault.{ReplayFault}
use Rattle.cl_replay.specs.declared.replaying.ReplayFault.TheVariants as replay
use Rattle.cl_replay.specs.declared.states.ClusterState.{ClusterState}
use Rattle.cl_state.specs.Asked.{asked}
use Rattle.rvmc_sights.specs.Lines.{sight_of}
use Rattle.rvmc_sights.proofs.Sights.{is_there}
use Rattle.rvmc_list.specs.Folding.{lines_of, scenes_text}
use Rattle.rvmc_list.specs.List.{AreScenes, IsSceneAt, last_place}
use Rattle.rvmc_list.specs.Meeting.{IsCountedTo, IsMet}
use Rattle.rvmc_list.specs.Phases.{Scene, phase_in}
use Rattle.rvmc_list.specs.Pieces.{behind, closing}
use Rattle.rvmc_list.specs.Putting.{ArePut, Puts}
use Rattle.rvmc_sights.specs.Pieces.{IsMoved}
use Rattle.rvmc_list.specs.Written.{IsBegun, IsChecked, IsWritten, Leaves}
use Rattle.rvmc_list.specs.declared.folding.Wanted.{Wanted}
use Rattle.rvmc_list.specs.declared.phases.Phases.{Phases}
use Rattle.rvmc_list.specs.declared.walk.ListFault.{ListFault}
use Rattle.rvmc_list.specs.declared.walk.ListFault.TheVariants as fault
use Rattle.rvmc_list.proofs.Told.{put_more, put_none, scenes_more, told_all}

-- ---- each step of a run has a scene

module _ (image : ImageParts) (steps : List Step) where
  -- of the step that leads from one cluster to another
  scene_there : (n : ℕ) (old new : Cluster) (e : Step) → IsRun (loaded_cluster image) (take n steps) old
      → slice_get steps n ≡ Some e → IsStep old e new → (scene : Scene) × IsSceneAt image steps n scene
  scene_there n old new e run there step =
      let run_after = run_more (take n steps) (loaded_cluster image) old new e run step in
      let sized = run_sized image (take n steps) old run in
      let sized_after = run_sized image (take n steps ++ e ∷ []) new run_after in
      let below : e.rank < length old.ranks = slice_get_within old.ranks e.rank step.0 step.1 in
      let counts : length old.ranks ≡ length new.ranks = sized.count ∙ sym sized_after.count in
      let after = is_there new.ranks e.rank (omega (arith, below, counts)) in (
        record {
          sight = sight_of n e step.0 after.0;
          phase = phase_in e.kind old.boxes (asked step.0 e.hart);
        },
        record {
          sight = record {
            old = old;
            run = run;
            step = e;
            there = there;
            new = new;
            leads = step;
            before = step.0;
            after = after.0;
            before_there = step.1;
            after_there = after.1;
            is = refl;
          };
          phase = refl;
        },
      )

  -- scenes go on to any place up to which the steps are a run
  scenes_on : (from n : ℕ) → from ≤ n → (scenes : List Scene) → AreScenes image steps from n scenes → (count : ℕ)
      → n + count ≤ length steps → IsRunUpTo image steps (n + count)
      → (rest : List Scene) × AreScenes image steps from (n + count) (scenes ++ rest)
  scenes_on from n forwards scenes are zero within run =
      ([], subst (λ (xs : List Scene). AreScenes image steps from (n + 0) xs) (sym (append-nil scenes)) (subst (λ k. AreScenes image steps from k scenes) none are))
    where
      none : n ≡ n + 0
      none = omega arith
  scenes_on from n forwards scenes are (suc count) within run =
      let place = n + count in
      let next : n + suc count ≡ suc place = omega arith in
      let e = is_there steps place (omega (arith, within)) in
      let longer = subst (λ k. IsRun (loaded_cluster image) (take k steps) run.0) next run.1 in
      let less = run_less (take place steps) (loaded_cluster image) run.0 e.0
      (subst (λ es. IsRun (loaded_cluster image) es run.0) (take_next steps place e.0 e.1) longer) in
      let before = scenes_on from n forwards scenes are count (omega (arith, within)) (less.0, less.1) in
      let scene = scene_there place less.0 run.0 e.0 less.1 e.1 less.2 in
      let more = scenes_more image steps from place (omega (arith, forwards)) (scenes ++ before.0) before.1 scene.0 scene.1 in
      let one : place + 1 ≡ n + suc count = omega arith in (
        before.0 ++ scene.0 ∷ [],
        subst (λ k. AreScenes image steps from k (scenes ++ (before.0 ++ scene.0 ∷ []))) one
            (subst (λ (xs : List Scene). AreScenes image steps from (place + 1) xs)
            (append_assoc scenes before.0 (scene.0 ∷ [])) more),
      )

-- ---- what is put behind what was written

-- what a step adds to a text it adds to one with more before it
puts_behind : (symbols : List Symbol) (wanted : Wanted) (old : ClusterState) (place : ℕ) (phase : Option ℕ) (e : Step)
    (new : ClusterState) (front text : List ℕ) (begun : Option ℕ) (after : List ℕ) (next : Option ℕ)
    → Puts symbols wanted old place phase e new text begun after next
    → Puts symbols wanted old place phase e new (front ++ text) begun (front ++ after) next
puts_behind symbols wanted old place phase e new front text begun after next puts s t s_there t_there s_hart t_hart =
    let put = puts s t s_there t_there s_hart t_hart in
    record {
      text = ap (λ (x : List ℕ). front ++ x) put.text ∙ sym (append_assoc front text _);
      open_is = put.open_is;
    }

-- the steps so far are put: what was written, and what is held
pub record AreWritten (image : ImageParts) (steps : List Step) (wanted : Wanted) (n : ℕ) (state : ClusterState)
    (phases : Phases) (begun : Option ℕ) (held : List ℕ) (before after : Option (List ℕ)) : Type 0 where
  pub front : List ℕ
  pub there : Appends before after front
  pub put : ArePut image steps wanted wanted.from n state phases begun [] (front ++ held)

-- before the first step
pub written_none : (image : ImageParts) (steps : List Step) (wanted : Wanted) (state : ClusterState) (phases : Phases)
    (held : List ℕ) (known : Option (List ℕ)) → IsCountedTo image steps wanted.from state phases → held ≡ []
    → AreWritten image steps wanted wanted.from state phases None held known known
written_none image steps wanted state phases held known to none = record {
  front = [];
  there = Appends-nil known;
  put = subst (λ (xs : List ℕ). ArePut image steps wanted wanted.from wanted.from state phases None [] xs) (sym none)
      (put_none image steps wanted wanted.from state phases [] to);
}

module _ (image : ImageParts) (steps : List Step) (wanted : Wanted) (n : ℕ) (state : ClusterState) (phases : Phases)
    (begun : Option ℕ) (held : List ℕ) (before after : Option (List ℕ))
    (are : AreWritten image steps wanted n state phases begun held before after) where
  -- one step more, and the front of what is held moved to the writer
  pub written_more : wanted.from ≤ n → (e : Step) → slice_get steps n ≡ Some e → (new : ClusterState) → Leads state e new
      → (phase : Option ℕ) (met : Phases) → IsMet state e phases phase met → (next : Option ℕ) (told : List ℕ)
      → Puts image.symbols wanted state n phase e new held begun told next → (left : List ℕ) (later : Option (List ℕ))
      → IsMoved told left after later → AreWritten image steps wanted (n + 1) new met next left before later
  written_more forwards e there new leads phase met is_met next told puts left later moved = record {
    front = are.front ++ moved.front;
    there = Appends-trans before after later are.front moved.front are.there moved.there;
    put = subst (λ (xs : List ℕ). ArePut image steps wanted wanted.from (n + 1) new met next [] xs)
        (ap (λ (x : List ℕ). are.front ++ x) moved.all ∙ sym (append_assoc are.front moved.front left))
        (put_more image steps n state phases are.put.counted_to e there new leads phase met is_met wanted wanted.from
        forwards begun [] (are.front ++ held) are.put next (are.front ++ told)
        (puts_behind image.symbols wanted state n phase e new are.front held begun told next puts));
  }

  module _ (to : ℕ) (checked : IsChecked image steps wanted to) where
    -- behind the last step, where what was held is written too
    pub written_all : n - wanted.from ≡ to - wanted.from → (closed : List ℕ) → closed ≡ held ++ closing begun
        → (later : Option (List ℕ)) → Appends after later closed → IsWritten image steps wanted before later
    written_all same closed closed_is later last =
        let told = told_all image steps wanted n to state phases begun [] (are.front ++ held) (are.front ++ closed) are.put
        same (ap (λ (x : List ℕ). are.front ++ x) closed_is ∙ sym (append_assoc are.front held (closing begun))) in
        record {
          text = are.front ++ closed;
          list = record {
            scenes = told.scenes;
            are = subst (λ k. AreScenes image steps wanted.from k told.scenes) checked.to_is told.are;
            is = told.text;
          };
          there = Appends-trans before after later are.front closed are.there last;
        }

    -- before that, what stands at the writer is a beginning of the text
    pub begun_so_far : wanted.from ≤ n → n ≤ max wanted.from to → max wanted.from to ≤ length steps
        → IsBegun image steps wanted before after
    begun_so_far forwards most within =
        let end : n + (to - n) ≡ max wanted.from to = omega (arith, forwards, most) in
        let run = subst (λ k. IsRunUpTo image steps k) (sym end) checked.run in
        let rest = scenes_on image steps wanted.from n forwards are.put.scenes are.put.are (to - n)
        (omega (arith, end, within)) run in
        let scenes = are.put.scenes ++ rest.0 in
        let lines = behind begun (lines_of image.symbols wanted rest.0) in
        let count : (n + (to - n)) - wanted.from ≡ last_place wanted steps - wanted.from =
        (let last = checked.to_is in omega (arith, end, last, forwards, most)) in
        record {
          text = scenes_text image.symbols wanted scenes;
          list = record {
            scenes = scenes;
            are = record { count = rest.1.count ∙ count; each = rest.1.each };
            is = refl;
          };
          front = are.front;
          begins = ap (take (length are.front)) (are.put.text rest.0 ∙ append_assoc are.front held lines)
              ∙ take-append_seam are.front (held ++ lines);
          there = are.there;
        }

-- ---- for which fault there is no more

-- what holds whatever the fault is
pub whatever : {A E : Type 0} (r : Result A E) (P : Type 0) → P → IfErr r (λ _. P)
whatever (Ok x) P is = tt
whatever (Err e) P is = is

-- steps that are a run are refused for memory alone
pub only_memory : (image : ImageParts) (steps : List Step) (n : ℕ) → IsRunUpTo image steps n → n ≤ length steps
    → (why : ReplayFault) → ReplayFaultHolds image steps n why → why ≡ replay.Memory
only_memory image steps n run within (replay.Step k) h = absurd (run_law image steps n k run h.0 h.2)
only_memory image steps n run within replay.Memory h = refl
only_memory image steps n run within (replay.PastEnd len) h = absurd (let past = h.0 in omega (arith, past, within))

pub step_wants_memory : (image : ImageParts) (steps : List Step) (wanted : Wanted) (to n : ℕ) (state : ClusterState)
    (phases : Phases) → IsChecked image steps wanted to → max wanted.from to ≤ length steps
    → IsCountedTo image steps n state phases → (e : Step) → slice_get steps n ≡ Some e → n < to → (why : ReplayFault)
    → StepBreaks state n e why → why ≡ replay.Memory
step_wants_memory image steps wanted to n state phases checked within counted e there below why h =
    let most : n < max wanted.from to = omega (arith, below) in
    only_memory image steps (max wanted.from to) checked.run within why
    (breaks_before image steps n state counted.reached e there (max wanted.from to) most within why h)

-- ---- what is left at the writer

pub nothing_left : (image : ImageParts) (steps : List Step) (wanted : Wanted) (why : ListFault) (known : Option (List ℕ))
    → Leaves image steps wanted why known known
nothing_left image steps wanted fault.NoRank known = Keeps-refl known
nothing_left image steps wanted (fault.Replay replay.Memory) known = inl (Keeps-refl known)
nothing_left image steps wanted (fault.Replay (replay.PastEnd len)) known = Keeps-refl known
nothing_left image steps wanted (fault.Replay (replay.Step n)) known = Keeps-refl known

pub begun_left : (image : ImageParts) (steps : List Step) (wanted : Wanted) (why : ReplayFault)
    (before after : Option (List ℕ)) → why ≡ replay.Memory → IsBegun image steps wanted before after
    → Leaves image steps wanted (fault.Replay why) before after
begun_left image steps wanted why before after is begun =
    subst (λ (f : ReplayFault). Leaves image steps wanted (fault.Replay f) before after) (sym is) (inr begun)
