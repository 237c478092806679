-- Steps that lead from one place to another.
use Rattle.std.specs.Prelude.{ℕ, zero, suc, ◌+◌, ◌-◌, ◌<◌, ◌≤◌, ◌^◌, ◌≡◌, List, [], ◌∷◌, None, length, map, slice_get, slice_range, slice_set, take, Some, false}
use Rattle.std.specs.List.{last_or}
use Rattle.std.specs.Vec.{with_item}
use Rattle.std.proofs.Common.{refl, sym, ap, ◌∙◌, subst, arith, inl, get_or, drop, length-drop}
use Rattle.std.proofs.lemmas.List.{get_or-drop, get_or-take, length-take-le}
use Rattle.std.proofs.lemmas.Option.{get_or_from_slice_get, slice_get_read, slice_get_within}
use Rattle.rv_hart.specs.Stepped.{stepped}
use Rattle.rv_hart.specs.declared.state.Mode.TheVariants.{Running}
use Rattle.rv_memory.specs.Access.{word_at}
use Rattle.cl_machine.proofs.Lists.{get-set_same}
use Rattle.cl_machine.proofs.Tables.{set-same}
use Rattle.cl_machine.specs.Laws.{ComesAfter}
use Rattle.cl_machine.specs.declared.steps.Step.{Step}
use Rattle.cl_state.specs.declared.asking.Answer.{Answer}
use Rattle.cl_state.specs.declared.asking.Ask.{Ask}
use Rattle.cl_state.specs.declared.state.RankState.{RankState}
use Rattle.cl_state.specs.Asked.{is_ecall}
use Rattle.cl_state.specs.Room.{rank_of}
use Rattle.cl_plain.proofs.Called.{asks_plain, told_plain}
use Rattle.cl_plain.proofs.Unstepped.{unstepped}
use Rattle.cl_trace.specs.declared.events.Kind.{Kind}
use Rattle.cl_replay.specs.declared.states.ClusterState.{ClusterState}
use Rattle.cl_replay.specs.InnerStates.{AreSame}
use Rattle.cl_replay.specs.Steps.{Leads}
use Rattle.cl_replay.specs.Turns.{AsksNext, IsTold}
use Rattle.cl_replay.specs.declared.walking.Whose.{Whose}
use Rattle.cl_replay.specs.Walking.{GoesOn, HartAt, HartGoesOn, HasHart, StandsIn, with_hart, with_rank}
use Rattle.cl_replay.proofs.ByKind.{plain_leads}
use Rattle.cl_replay.proofs.Orders.{last-take, order_more}
use Rattle.cl_replay.proofs.Runs.{reached_more}
use Rattle.cl_replay.proofs.Same.{same_stands}

-- what was written twice was written once
set_twice : {X : Type 0} (xs : List X) (k : ℕ) (x y : X) → slice_set (slice_set xs k x) k y ≡ slice_set xs k y
set_twice [] k x y = refl
set_twice (z ∷ xs) zero x y = refl
set_twice (z ∷ xs) (suc k) x y = ap (λ zs. z ∷ zs) (set_twice xs k x y)

-- a cluster with the state that a rank has
pub goes_nowhere : (steps : List Step) (r from : ℕ) (s : RankState) → GoesOn steps r from s from s
goes_nowhere steps r from s = record {
  leads = λ cluster at image reached. record {
    cluster = reached.cluster;
    run = reached.run;
    stands = same_stands cluster (with_rank cluster r s) (same cluster at) image reached.cluster reached.stands;
  };
  order = λ cluster at image reached ordered. ordered;
}
  where
    same : (cluster : ClusterState) → slice_get cluster.ranks.items r ≡ Some s
        → AreSame cluster (with_rank cluster r s)
    same cluster at = record {
      ranks = ap (map rank_of) (set-same cluster.ranks.items r s at);
      hub = refl;
      clock = refl;
      boxes = refl;
    }

module _ (steps : List Step) (r from : ℕ) (old : RankState) (n : ℕ) (mid : RankState)
    (goes : GoesOn steps r from old n mid) (e : Step) (there : slice_get steps n ≡ Some e) (rank : e.rank ≡ r)
    (new : RankState) (hart : e.hart < length mid.harts.items) (low : e.stamp < 2 ^ 62) (kind : e.kind ≡ Kind.Plain)
    (asks : AsksNext (rank_of mid) e Ask.Plain) (by : IsTold (rank_of mid) e Answer.Alone (rank_of new)) where
  -- a plain step of the rank, in any cluster that has it
  step_leads : (cluster : ClusterState) → slice_get cluster.ranks.items r ≡ Some old
      → Leads (with_rank cluster r mid) e (with_rank cluster r new)
  step_leads cluster at =
      let here : slice_get (slice_set cluster.ranks.items r mid) e.rank ≡ Some mid =
      ap (slice_get (slice_set cluster.ranks.items r mid)) rank ∙ get-set_same cluster.ranks.items r old mid at in
      let ranks : slice_set cluster.ranks.items r new ≡ slice_set (slice_set cluster.ranks.items r mid) e.rank new =
      sym (ap (λ k. slice_set (slice_set cluster.ranks.items r mid) k new) rank
      ∙ set_twice cluster.ranks.items r mid new) in
      plain_leads (with_rank cluster r mid) e mid here (with_rank cluster r new) new hart low ranks refl refl refl
      kind asks by

  -- one plain step more
  pub goes_more : (last : Step) → 0 < n → slice_get steps (n - 1) ≡ Some last → last.stamp ≡ mid.clock
      → GoesOn steps r from old (n + 1) new
  goes_more last up before clock = record {
    leads = λ cluster at image reached.
        reached_more image steps n (with_rank cluster r mid) (goes.leads cluster at image reached) e there
        (with_rank cluster r new)
        (step_leads cluster at);
    order = λ cluster at image reached ordered.
        order_more image steps n (with_rank cluster r mid) (goes.leads cluster at image reached)
        (goes.order cluster at image reached ordered) e there (with_rank cluster r new) (step_leads cluster at) after;
  }
    where
      later : last.stamp < e.stamp
      later = let next = asks.1 in omega (arith, next, clock)

      after : ComesAfter (last_or None (take n steps)) e
      after = subst (λ o. ComesAfter o e) (sym (last-take steps n last up before)) (inl later)

-- ---- runs of one hart

-- no step leads the hart to where it is
pub hart_nowhere : (run : List Step) (whose : Whose) (at : HartAt) → HartGoesOn run whose at 0 at
hart_nowhere run whose at = record {
  goes = λ steps from rank stands has.
      let none : from ≡ from + 0 = omega arith in
      subst (λ n. GoesOn steps whose.rank from rank n (with_hart rank whose.hart at)) none
      (subst (λ s. GoesOn steps whose.rank from rank from s) (sym (same rank has))
      (goes_nowhere steps whose.rank from rank));
  stamp = λ steps from stands.
      let none : from - 1 ≡ from + 0 - 1 = omega arith in
      (stands.last, sym (ap (slice_get steps) none) ∙ stands.before, stands.stamp);
}
  where
    same : (rank : RankState) → HasHart rank whose.hart at → with_hart rank whose.hart at ≡ rank
    same rank has =
        ap (λ (t : ℕ). record rank {
          harts = with_item rank.harts whose.hart at.hart;
          memory = at.memory;
          clock = t;
        }) (sym has.clock)
        ∙ unstepped rank whose.hart at.hart at.hart at.memory
        (sym (get_or_from_slice_get rank.harts.items whose.hart at.hart at.hart has.there)) refl (sym has.memory)

module _ (run : List Step) (whose : Whose) (old : HartAt) (n : ℕ) (mid : HartAt)
    (so_far : HartGoesOn run whose old n mid) (e : Step) (at : slice_get run n ≡ Some e)
    (kind : e.kind ≡ Kind.Plain) (rank : e.rank ≡ whose.rank) (hart : e.hart ≡ whose.hart)
    (next : e.stamp ≡ mid.clock + 1) (low : e.stamp < 2 ^ 62) (new : HartAt) (running : mid.hart.mode ≡ Running)
    (no_call : is_ecall (word_at mid.memory mid.hart.pc) ≡ false)
    (goes_hart : new.hart ≡ (stepped mid.hart mid.memory).state)
    (goes_memory : new.memory ≡ (stepped mid.hart mid.memory).memory) (clock : new.clock ≡ e.stamp) where
  module _ (s : RankState) (has : HasHart s whose.hart old) where
    -- the hart is where it was put
    there : slice_get (slice_set s.harts.items whose.hart mid.hart) e.hart ≡ Some mid.hart
    there =
        ap (slice_get (slice_set s.harts.items whose.hart mid.hart)) hart
        ∙ get-set_same s.harts.items whose.hart old.hart mid.hart has.there

    puts : slice_set (slice_set s.harts.items whose.hart mid.hart) e.hart (stepped mid.hart mid.memory).state
        ≡ slice_set s.harts.items whose.hart new.hart
    puts =
        ap (λ k. slice_set (slice_set s.harts.items whose.hart mid.hart) k (stepped mid.hart mid.memory).state) hart
        ∙ set_twice s.harts.items whose.hart mid.hart (stepped mid.hart mid.memory).state
        ∙ ap (slice_set s.harts.items whose.hart) (sym goes_hart)

    is_told : IsTold (rank_of (with_hart s whose.hart mid)) e Answer.Alone (rank_of (with_hart s whose.hart new))
    is_told =
        sym (told_plain (rank_of (with_hart s whose.hart mid)) e.hart mid.hart there running no_call e.stamp
        ∙ (λ i. record (rank_of (with_hart s whose.hart mid)) {
          memory = sym goes_memory i;
          harts = puts i;
          clock = sym clock i;
        }))

  -- one step of the hart more
  pub hart_more : HartGoesOn run whose old (n + 1) new
  hart_more = record {
    goes = λ steps from s stands has.
        let last = so_far.stamp steps from stands in
        let far : from + n + 1 ≡ from + (n + 1) = omega arith in
        let up : 0 < from + n = omega (arith, stands.behind) in
        subst (λ k. GoesOn steps whose.rank from s k (with_hart s whose.hart new)) far
        (goes_more steps whose.rank from s (from + n) (with_hart s whose.hart mid) (so_far.goes steps from s stands has)
        e (stands.each n e at) rank (with_hart s whose.hart new)
        (slice_get_within (slice_set s.harts.items whose.hart mid.hart) e.hart mid.hart (there s has)) low kind (
          asks_plain (rank_of (with_hart s whose.hart mid)) e.hart mid.hart (there s has) running no_call,
          next,
        )
        (is_told s has) last.0 up last.1 last.2);
    stamp = λ steps from stands.
        let back : from + n ≡ from + (n + 1) - 1 = omega arith in
        (e, sym (ap (slice_get steps) back) ∙ stands.each n e at, sym clock);
  }

-- steps between two places of a list stand in it
pub range_stands : (steps : List Step) (from to : ℕ) (last : Step) → 0 < from → from ≤ to → to ≤ length steps
    → slice_get steps (from - 1) ≡ Some last → StandsIn (slice_range steps from to) steps from last.stamp
range_stands steps from to last behind forwards within before = record {
  behind = behind;
  last = last;
  before = before;
  stamp = refl;
  each = λ k e at.
      let run : List Step = slice_range steps from to in
      let inside = slice_get_within run k e at in
      let long : length run ≡ to - from = length-take-le (to - from) (drop from steps)
      (omega (arith, length-drop from steps, within, forwards)) in
      let place : from + k < length steps = omega (arith, inside, long, within, forwards) in
      let is : get_or run k e ≡ e = get_or_from_slice_get run k e e at in
      let same : get_or run k e ≡ get_or steps (from + k) e =
      get_or-take (to - from) (drop from steps) k e (omega (arith, inside, long)) ∙ get_or-drop from steps k e in
      slice_get_read steps (length steps) (from + k) e refl place (sym is ∙ same);
}
