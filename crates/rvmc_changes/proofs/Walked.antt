-- The changes of steps that are done one after another.
use Rattle.std.specs.Prelude.{ℕ, zero, suc, ◌≡◌, ◌+◌, ◌-◌, ◌<◌, ◌≤◌, max, List, [], ◌∷◌, ◌++◌, drop, length}
use Rattle.std.specs.Prelude.{map, slice_get, take, Some}
use Rattle.std.proofs.Common.{refl, sym, ap, ◌∙◌, subst, add-one, arith, length-drop}
use Rattle.std.proofs.Math.Seq.{take-add}
use Rattle.std.proofs.lemmas.List.{drop-drop, length-take-le, map-append}
use Rattle.std.proofs.lemmas.Option.{same_Some}
use Rattle.rv_hart.specs.State.{State}
use Rattle.rv_hart.specs.Stepped.{stepped}
use Rattle.rv_hart.specs.Stores.{store_range}
use Rattle.rv_hart.specs.declared.stores.StoreRange.{StoreRange}
use Rattle.rv_image_types.specs.declared.images.ImageParts.{ImageParts}
use Rattle.rv_memory.specs.Memory.{Memory, bytes_at}
use Rattle.cl_machine.specs.Cluster.{CaseOf, Cluster, IsRun, IsStep, loaded_cluster}
use Rattle.cl_machine.specs.declared.steps.Step.{Step}
use Rattle.cl_replay.proofs.Asks.{plain_steps}
use Rattle.cl_machine.proofs.Tables.{one_end, run_more}
use Rattle.cl_replay.proofs.Runs.{breaks, take_next}
use Rattle.cl_replay.proofs.StatesThere.{state_there}
use Rattle.cl_replay.specs.InnerReplaying.{BreaksAt, StepBreaks}
use Rattle.cl_replay.specs.Replaying.{IsReached}
use Rattle.cl_replay.specs.Replays.{IsRunUpTo}
use Rattle.cl_replay.specs.States.{ClusterStandsFor}
use Rattle.cl_replay.specs.Steps.{Leads}
use Rattle.cl_replay.specs.declared.replaying.ReplayFault.{ReplayFault}
use Rattle.cl_replay.specs.declared.replaying.ReplayFault.TheVariants as fault
use Rattle.cl_replay.specs.declared.states.ClusterState.{ClusterState}
use Rattle.cl_state.proofs.Moves.{told_at}
use Rattle.cl_state.specs.Asked.{asked, doing, part_of}
use Rattle.cl_state.specs.Rank.{Rank}
use Rattle.cl_state.specs.Room.{rank_of}
use Rattle.cl_state.specs.Table.{row_in}
use Rattle.cl_state.specs.Told.{told, told_row}
use Rattle.cl_state.specs.declared.asking.Answer.{Answer}
use Rattle.cl_state.specs.declared.asking.Ask.{Ask}
use Rattle.cl_state.specs.declared.state.RankState.{RankState}
use Rattle.cl_trace.specs.declared.events.Kind.{Kind}
use Rattle.rvmc_changes.specs.WalkFaults.{StepsBreak}
use Rattle.rvmc_changes.specs.Doing.{all_done, all_undone}
use Rattle.rvmc_changes.proofs.Compared.{edits_cut}
use Rattle.rvmc_changes.proofs.Places.{Tells, changes_more, places, shown, tells, told_there}
use Rattle.rvmc_changes.proofs.Stored.{stored_edits}
use Rattle.rvmc_changes.specs.Changes.{AreChanges, Difference, IsChange, difference, hart_in, stand_of, stretch}
use Rattle.rvmc_changes.specs.Edits.{edits_from}
use Rattle.rvmc_changes.specs.Laws.{ShowsSeen, WalkLaw}
use Rattle.rvmc_changes.specs.Seen.{SeenRank, registers_of, seen_rank}
use Rattle.rvmc_changes.specs.Walking.{Adds, AreMade, GoesOn, HasCome, IsAdded, IsChangeBehind, IsChangeIn, IsLookedAt, Makes}
use Rattle.rvmc_changes.specs.Walking.{seen_through, window_by, window_in}
use Rattle.rvmc_changes.specs.Given.{difference_in, differences}
use Rattle.rvmc_changes.specs.Walks.{IsWalk}
use Rattle.rvmc_changes.specs.declared.before.Before.{Before}
use Rattle.rvmc_changes.specs.declared.before.Window.{Window}
use Rattle.rvmc_changes.specs.declared.edits.Edit.{Edit}
use Rattle.rvmc_changes.specs.declared.steps.Change.{Change}

-- ---- the bytes that a step may change

-- an instruction leaves the memory that its hart's step leaves
plain_memory : (rank : Rank) (hart : ℕ) (a : Answer) (stamp : ℕ) → asked rank hart ≡ Ask.Plain
    → (told rank hart a stamp).memory ≡ (stepped (part_of rank hart).hart rank.memory).memory
unfolding told
plain_memory rank hart a stamp asks =
    ap (λ d. (told_row rank.site (row_in rank.site hart rank.memory rank.requests rank.phases d) a (part_of rank hart)).memory)
    (plain_steps rank hart (doing rank.site (part_of rank hart)) refl asks)

-- the edits of a window's bytes
abbrev edits_in : Window → Memory → Memory → List Edit
edits_in w before after =
    edits_from w.address (bytes_at before w.address w.count) (bytes_at after w.address w.count)

-- all bytes are a window
all_in : (before after : Memory) → edits_from 0 before.bytes after.bytes
    ≡ edits_in (record { address = 0; count = length before.bytes }) before after
all_in before after = sym (edits_cut 0 (length before.bytes) before.bytes after.bytes (omega arith))

module _ (e : Step) (rank : Rank) (a : Answer) where
  abbrev after : Rank
  after = told rank e.hart a e.stamp

  window_edits : (kind : Kind) → (kind ≡ Kind.Plain → asked rank e.hart ≡ Ask.Plain)
      → edits_from 0 rank.memory.bytes after.memory.bytes ≡ edits_in (window_by kind e rank) rank.memory after.memory
  window_edits Kind.Plain asks =
      let left = plain_memory rank e.hart a e.stamp (asks refl) in
      let stored : StoreRange = store_range (hart_in e rank) rank.memory in
      ap (λ (m : Memory). edits_from 0 rank.memory.bytes m.bytes) left
      ∙ stored_edits (hart_in e rank) rank.memory
      ∙ ap (λ (m : Memory). edits_from stored.address (bytes_at rank.memory stored.address stored.count)
      (bytes_at m stored.address stored.count)) (sym left)
  window_edits Kind.Local asks = all_in rank.memory after.memory
  window_edits (Kind.Hub reply) asks = all_in rank.memory after.memory
  window_edits Kind.Ready asks = all_in rank.memory after.memory
  window_edits Kind.Take asks = all_in rank.memory after.memory
  window_edits Kind.Miss asks = all_in rank.memory after.memory
  window_edits Kind.Freed asks = all_in rank.memory after.memory
  window_edits Kind.Held asks = all_in rank.memory after.memory
  window_edits Kind.Idle asks = all_in rank.memory after.memory

plain_asks : (old new : Cluster) (e : Step) (rank : Rank) (kind : Kind) → CaseOf old e rank kind new
    → kind ≡ Kind.Plain → asked rank e.hart ≡ Ask.Plain
plain_asks old new e rank kind case is = (subst (λ k. CaseOf old e rank k new) is case).0

-- ---- a step

-- what was known of a step before it, and what it left, make its difference
pub looked : (e : Step) (before after : Rank) (b : Before) (change : Change) → IsLookedAt e before b
    → IsChangeIn e b after (hart_in e after) change
    → difference_in change ≡ seen_through (window_in e before) e before after
looked e before after b change look is =
    is
    ∙ (λ i. record {
      rank = e.rank;
      hart = e.hart;
      old = stand_of (look.hart i);
      new = stand_of (hart_in e after);
      registers = edits_from 0 (registers_of (look.hart i)) (registers_of (hart_in e after));
      bytes = edits_from (look.window_is i).address (bytes_were i)
          (bytes_at after.memory (look.window_is i).address (look.window_is i).count);
      put = drop (look.written i) after.out;
    })
  where
    bytes_were : b.bytes.items
        ≡ bytes_at before.memory (window_in e before).address (window_in e before).count
    bytes_were = look.bytes ∙ ap (λ (w : Window). bytes_at before.memory w.address w.count) look.window_is

-- the change of a step of the rank that it names
pub change_behind : (state : ClusterState) (e : Step) (b : Before) (r : RankState) (hart : State) (change : Change)
    → slice_get state.ranks.items e.rank ≡ Some r → hart ≡ hart_in e (rank_of r) → IsChangeIn e b (rank_of r) hart change
    → IsChangeBehind state e b (Some change)
change_behind state e b r hart change there same is t t_there below = (
  subst (λ (x : RankState). IsChangeIn e b (rank_of x) (hart_in e (rank_of x)) change)
      (same_Some r t (sym there ∙ t_there)) (subst (λ h. IsChangeIn e b (rank_of r) h change) same is),
  λ none. absurd (cc),
)

-- one change was added, and it is that of the step
pub record IsOf (old : Cluster) (e : Step) (new : Cluster) (changes after : List Change) : Type 0 where
  pub change : Change
  pub is : IsChange old e new (difference_in change)
  pub added : after ≡ changes ++ change ∷ []

module _ (state : ClusterState) (e : Step) (new : ClusterState) (changes after : List Change)
    (adds : Adds state e new changes after) (old next : Cluster) (step : IsStep old e next)
    (ranks : old.ranks ≡ map rank_of state.ranks.items) (next_ranks : next.ranks ≡ map rank_of new.ranks.items) where
  t : Tells old e next
  t = tells old e next step

  abbrev told_rank : Rank
  told_rank = told t.rank e.hart t.answer e.stamp

  before_state : (s : RankState) × (slice_get state.ranks.items e.rank ≡ Some s) × (rank_of s ≡ t.rank)
  before_state = state_there old.ranks state.ranks.items ranks e.rank t.rank t.there

  after_state : (s : RankState) × (slice_get new.ranks.items e.rank ≡ Some s) × (rank_of s ≡ told_rank)
  after_state = state_there next.ranks new.ranks.items next_ranks e.rank told_rank (told_there old e next t)

  asks_plain : e.kind ≡ Kind.Plain → asked t.rank e.hart ≡ Ask.Plain
  asks_plain is =
      subst (λ r. asked r e.hart ≡ Ask.Plain) (same_Some step.0 t.rank (sym step.1 ∙ t.there))
      (plain_asks old next e step.0 e.kind step.4 is)

  added_there : IsAdded e t.rank told_rank changes after
  added_there =
      subst (λ r. IsAdded e t.rank r changes after) after_state.2
      (subst (λ r. IsAdded e r (rank_of after_state.0) changes after) before_state.2
      (adds before_state.0 after_state.0 before_state.1 after_state.1
      (let below = t.below in let same = ap (λ (r : Rank). length r.harts) before_state.2 in omega (arith, below, same))
      (let below = t.below in
      let same = ap (λ (r : Rank). length r.harts) after_state.2 in
      let kept = (told_at t.rank e.hart t.answer e.stamp).harts in
      omega (arith, below, same, kept))))

  pub is_of : IsOf old e next changes after
  is_of = record {
    change = added_there.change;
    is = record {
      before = t.rank;
      after = told_rank;
      before_there = t.there;
      after_there = told_there old e next t;
      is = added_there.is
          ∙ ap (λ es. record (difference e t.rank told_rank) { bytes = es })
          (sym (window_edits e t.rank t.answer e.kind asks_plain));
    };
    added = added_there.added;
  }

-- ---- one step after another

-- what stands behind some steps
behind : (a k : ℕ) (xs : List Step) → slice_get (drop a xs) k ≡ slice_get xs (a + k)
behind zero k xs = ap (slice_get xs) (let same : k ≡ 0 + k = omega arith in same)
behind (suc a) k [] = refl
behind (suc a) k (x ∷ xs) =
    behind a k xs ∙ ap (slice_get (x ∷ xs)) (let same : suc (a + k) ≡ suc a + k = omega arith in same)

-- one step more of a stretch
stretch_more : (from n : ℕ) (steps : List Step) (e : Step) → from ≤ n → slice_get steps n ≡ Some e
    → stretch from (n + 1) steps ≡ stretch from n steps ++ e ∷ []
stretch_more from n steps e forwards there =
    ap (λ k. take k (drop from steps)) (let more : n + 1 - from ≡ suc (n - from) = omega (arith, forwards) in more)
    ∙ take_next (drop from steps) (n - from) e
    (behind from (n - from) steps
    ∙ ap (slice_get steps) (let sum : from + (n - from) ≡ n = omega (arith, forwards) in sum) ∙ there)

-- before the first step
pub none_made : (steps : List Step) (from : ℕ) (old : ClusterState) → Makes steps from old from old []
none_made steps from old image reached = record {
  reached = reached;
  are = subst (λ k. AreChanges reached.cluster (take k (drop from steps)) [] reached.cluster)
      (let none : 0 ≡ from - from = omega arith in none) refl;
}

module _ (steps : List Step) (from n : ℕ) (old state : ClusterState) (changes : List Change)
    (made : Makes steps from old n state changes) (e : Step) (there : slice_get steps n ≡ Some e) where
  module _ (forwards : from ≤ n) (new : ClusterState) (leads : Leads state e new) (after : List Change)
      (adds : Adds state e new changes after) (image : ImageParts) (reached : IsReached image steps from old) where
    abbrev so_far : AreMade image steps from reached.cluster n state changes
    so_far = made image reached

    abbrev led : (next : Cluster) × IsStep so_far.reached.cluster e next × ClusterStandsFor image new next
    led = leads image so_far.reached.cluster so_far.reached.stands

    found : IsOf so_far.reached.cluster e led.0 changes after
    found =
        is_of state e new changes after adds so_far.reached.cluster led.0 led.1 so_far.reached.stands.ranks_are
        led.2.ranks_are

    one_more : AreMade image steps from reached.cluster (n + 1) new after
    one_more = record {
      reached = record {
        cluster = led.0;
        run = subst (λ es. IsRun (loaded_cluster image) es led.0)
            (sym (ap (λ k. take k steps) (add-one n) ∙ take_next steps n e there))
            (run_more (take n steps) (loaded_cluster image) so_far.reached.cluster led.0 e so_far.reached.run led.1);
        stands = led.2;
      };
      are = subst (λ es. AreChanges reached.cluster es (map difference_in after) led.0)
          (sym (stretch_more from n steps e forwards there))
          (subst (λ ds. AreChanges reached.cluster (stretch from n steps ++ e ∷ []) ds led.0)
          (sym (ap (λ (cs : List Change). map difference_in cs) found.added
          ∙ map-append difference_in changes (found.change ∷ [])))
          (changes_more (stretch from n steps) (map difference_in changes) reached.cluster so_far.reached.cluster led.0 e
          (difference_in found.change) so_far.are led.1 found.is));
    }

  pub made_more : from ≤ n → (new : ClusterState) → Leads state e new → (after : List Change)
      → Adds state e new changes after → Makes steps from old (n + 1) new after
  made_more forwards new leads after adds image reached = one_more forwards new leads after adds image reached

  pub step_breaks : (to : ℕ) → n < to → (f : ReplayFault) → StepBreaks state n e f → StepsBreak steps from old to f
  step_breaks to below (fault.Step k) h = (
    subst (λ m. m < to) (sym h.0) below,
    λ image reached. subst (λ m. BreaksAt image steps m) (sym h.0)
        (breaks image steps n state (made image reached).reached e there h.1),
  )
  step_breaks to below fault.Memory h = tt
  step_breaks to below (fault.PastEnd len) h = absurd h

-- ---- the walk

-- two stretches, one behind the other
stretch_both : (from mid to : ℕ) (steps : List Step) → from ≤ mid → mid ≤ to
    → stretch from mid steps ++ stretch mid to steps ≡ stretch from to steps
stretch_both from mid to steps early late =
    ap (λ es. stretch from mid steps ++ take (to - mid) es)
    (ap (λ n. drop n steps) (let same : mid ≡ from + (mid - from) = omega (arith, early) in same)
    ∙ sym (drop-drop (mid - from) from steps))
    ∙ sym (take-add (mid - from) (to - mid) (drop from steps))
    ∙ ap (λ n. take n (drop from steps))
    (let sum : (mid - from) + (to - mid) ≡ to - from = omega (arith, early, late) in sum)

-- and their changes
changes_both : (es fs : List Step) (ds gs : List Difference) (old mid new : Cluster) → AreChanges old es ds mid
    → AreChanges mid fs gs new → AreChanges old (es ++ fs) (ds ++ gs) new
changes_both [] fs [] gs old mid new are more = subst (λ c. AreChanges c fs gs new) are more
changes_both [] fs (d ∷ ds) gs old mid new are more = absurd are
changes_both (e ∷ es) fs [] gs old mid new are more = absurd are
changes_both (e ∷ es) fs (d ∷ ds) gs old mid new are more =
    (are.0, are.1, are.2, changes_both es fs ds gs are.0 mid new are.3 more)

-- where a walk begins
pub has_begun : (image : ImageParts) (steps : List Step) (from : ℕ) (state : ClusterState) → from ≤ length steps
    → IsReached image steps from state → (start : List SeenRank)
    → start ≡ map seen_rank (map rank_of state.ranks.items) → HasCome image steps from from start [] state
has_begun image steps from state within reached start start_is = record {
  forwards = omega arith;
  old = reached.cluster;
  at = (within, reached.run);
  start_is = start_is ∙ ap (map seen_rank) (sym reached.stands.ranks_are);
  reached = reached;
  changes_are = subst (λ k. AreChanges reached.cluster (take k (drop from steps)) [] reached.cluster)
      (let none : 0 ≡ from - from = omega arith in none) refl;
}

-- it goes on by what its steps make
pub goes_on : (steps : List Step) (from to : ℕ) (old new : ClusterState) (changes : List Change) → from ≤ to
    → Makes steps from old to new changes → GoesOn steps from old to new (differences changes)
goes_on steps from to old new changes forwards makes image begun start so_far come =
    let made = makes image come.reached in
    record {
      forwards = (let early = come.forwards in omega (arith, early, forwards));
      old = come.old;
      at = come.at;
      start_is = come.start_is;
      reached = made.reached;
      changes_are = subst (λ es. AreChanges come.old es (so_far ++ differences changes) made.reached.cluster)
          (stretch_both begun from to steps come.forwards forwards)
          (changes_both (stretch begun from steps) (stretch from to steps) so_far (differences changes) come.old
          come.reached.cluster made.reached.cluster come.changes_are made.are);
    }

-- ---- the rest of a walk

-- each run has its changes
changes_there : (es : List Step) (old new : Cluster) → IsRun old es new
    → (ds : List Difference) × AreChanges old es ds new
changes_there [] old new run = ([], run)
changes_there (e ∷ es) old new run =
    let t = tells old e run.0 run.1 in
    let rest = changes_there es run.0 new run.2 in (
      difference e t.rank (told t.rank e.hart t.answer e.stamp) ∷ rest.0,
      (
        run.0,
        run.1,
        record {
          before = t.rank;
          after = told t.rank e.hart t.answer e.stamp;
          before_there = t.there;
          after_there = told_there old e run.0 t;
          is = refl;
        },
        rest.1,
      ),
    )

-- the front of a run, and what is behind it
run_parts : (es fs : List Step) (old new : Cluster) → IsRun old (es ++ fs) new
    → (mid : Cluster) × IsRun old es mid × IsRun mid fs new
run_parts [] fs old new run = (old, refl, run)
run_parts (e ∷ es) fs old new run =
    let h = run_parts es fs run.0 new run.2 in (h.0, (run.0, run.1, h.1), h.2)

-- the steps up to one place, and those from there to another
parts_of : (n to : ℕ) (steps : List Step) → n ≤ to → take n steps ++ stretch n to steps ≡ take to steps
parts_of n to steps le = sym (take-add n (to - n) steps) ∙ ap (λ k. take k steps) (let sum : n + (to - n) ≡ to = omega (arith, le) in sum)

-- what stays of a run where steps behind a place are left out
run_to : (image : ImageParts) (steps : List Step) (n m : ℕ) → n ≤ m → IsRunUpTo image steps m → IsRunUpTo image steps n
run_to image steps n m le run =
    let h = run_parts (take n steps) (stretch n m steps) (loaded_cluster image) run.0
    (subst (λ es. IsRun (loaded_cluster image) es run.0) (sym (parts_of n m steps le)) run.1) in
    (h.0, h.1)

-- a walk that has come to its end; where it is to end before it begins, it has come there
pub has_ended : (image : ImageParts) (steps : List Step) (from to : ℕ) (start : List SeenRank)
    (changes : List Difference) (state : ClusterState) → HasCome image steps from (max from to) start changes state
    → to ≤ length steps → IsWalk image steps from to start changes
has_ended image steps from to start changes state come within = record {
  inside = within;
  old = come.old;
  new = come.reached.cluster;
  at = come.at;
  start_is = come.start_is;
  changes_are = subst (λ k. AreChanges come.old (take k (drop from steps)) changes come.reached.cluster)
      (let same : max from to - from ≡ to - from = omega arith in same) come.changes_are;
}

-- and one on its way through a run comes there
pub rest_there : (image : ImageParts) (steps : List Step) (from n to : ℕ) (start : List SeenRank)
    (changes : List Difference) (state : ClusterState) → HasCome image steps from n start changes state
    → IsRunUpTo image steps (length steps) → n ≤ max from to → to ≤ length steps
    → (more : List Difference) × IsWalk image steps from to start (changes ++ more)
rest_there image steps from n to start changes state come run near within =
    let end = max from to in
    let late : end ≤ length steps = (let at = come.at.0 in omega (arith, at, within)) in
    let all = run_to image steps end (length steps) late run in
    let h = run_parts (take n steps) (stretch n end steps) (loaded_cluster image) all.0
    (subst (λ es. IsRun (loaded_cluster image) es all.0) (sym (parts_of n end steps near)) all.1) in
    let here : h.0 ≡ come.reached.cluster =
    one_end (loaded_cluster image) h.0 come.reached.cluster (take n steps) h.1 come.reached.run in
    let more = changes_there (stretch n end steps) come.reached.cluster all.0
    (subst (λ c. IsRun c (stretch n end steps) all.0) here h.2) in (
      more.0,
      record {
        inside = within;
        old = come.old;
        new = all.0;
        at = come.at;
        start_is = come.start_is;
        changes_are = subst (λ k. AreChanges come.old (take k (drop from steps)) (changes ++ more.0) all.0)
            (let same : end - from ≡ to - from = omega arith in same)
            (subst (λ es. AreChanges come.old es (changes ++ more.0) all.0)
            (stretch_both from n end steps come.forwards near)
            (changes_both (stretch from n steps) (stretch n end steps) changes more.0 come.old come.reached.cluster all.0
            come.changes_are more.1));
      },
    )

-- ---- what its changes come to

pub walks_there : WalkLaw
walks_there debugging from to start ds w forwards inside =
    let n = debugging.place - from in
    let es = stretch from to debugging.steps in
    let there = shown debugging from to w.old w.new ds forwards inside w.inside w.at w.changes_are in
    let long : length es ≡ to - from =
    length-take-le (to - from) (drop from debugging.steps)
    (let rest = length-drop from debugging.steps in let most = w.inside in omega (arith, rest, most)) in
    let led = places w.old w.new es ds n w.changes_are (omega (arith, forwards, inside, long)) in
    record {
      forwards = subst (λ ranks. ShowsSeen debugging (all_done (take n ds) ranks)) (sym w.start_is) there;
      back = ap (λ ranks. all_undone (take n ds) (all_done (take n ds) ranks)) w.start_is
          ∙ ap (all_undone (take n ds)) led.forwards ∙ led.back ∙ sym w.start_is;
    }
