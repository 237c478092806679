-- What a rank's turns so far are, and why it stops.
use Rattle.std.specs.Prelude.{ℕ, zero, suc, ◌≡◌, ◌<◌, ◌≤◌, ◌+◌, ◌%◌, ◌⊎◌, List, [], ◌∷◌, ◌++◌, length, map, slice_get, slice_index, Some}
use Rattle.std.specs.Prelude.{None, IsTrue, is_some}
use Rattle.std.specs.List.{AllByRecursion}
use Rattle.std.proofs.Common.{refl, sym, ap, ◌∙◌, subst, arith}
use Rattle.std.proofs.Math.Nat.{mod-add-mod}
use Rattle.std.proofs.lemmas.List.{length-append, map-append}
use mathlib.Core.Logic.{inl, inr}
use Rattle.cl_journal.specs.declared.journal.HubFault.{HubFault}
use Rattle.cl_journal.specs.declared.journal.HubFault.TheVariants as fault
use Rattle.cl_trace.specs.declared.events.Event.{Event}
use Rattle.mp_types.specs.declared.requests.Request.{Request}
use Rattle.cl_state.specs.Asked.{asked}
use Rattle.cl_state.specs.declared.asking.Ask.{Ask}
use Rattle.cl_state.specs.Rank.{Rank}
use Rattle.cl_state.proofs.Moves.{told_at}
use Rattle.cl_deeds.specs.Deeds.{Deed, PartRun, RankMoves, answer_of, event_of}
use Rattle.cl_deeds.specs.Alone.{IsAlone}
use Rattle.cl_rank.specs.Plains.{Repeats}
use Rattle.cl_rank.specs.RankSides.{KeysMove, Sides}
use Rattle.cl_deeds.specs.Turns.{AllStopped, IsActive}
use Rattle.cl_rank.specs.Turning.{DeskRule, IsCause, IsFault, RankView, stop_of}
use Rattle.cl_rank.specs.Views.{view_of}
use Rattle.cl_rank.specs.declared.stops.Stop.{Stop}
use Rattle.cl_record.proofs.Elements.{last_or_before}
use Rattle.cl_deeds.specs.Orders.{in_slot}
use Rattle.cl_record.specs.Records.{AsksHub, FollowsPlan, HasTurn}
use Rattle.cl_record.proofs.Plains.{plain_turn}
use Rattle.cl_record.specs.Seats.{GoesOn, Station, Stops, TakesPlainTurn, TakesTurn, station}
use Rattle.cl_record.specs.declared.plans.Plan.{Plan}
use Rattle.cl_record.specs.declared.seats.Seat.{Seat}
use Rattle.cl_threads.specs.Alone.{StopsFor}
use Rattle.cl_threads.specs.Cuts.{IsBy, IsCutPlan}
use Rattle.cl_threads.specs.declared.until.Until.{Until}
use Rattle.cl_threads.specs.OnThreads.{KeysGo, WentBy}

-- a run, and one step more
part_run_more : {S D : Type 0} (Move : S → D → S → Type 0) (old mid new : S) (ds : List D) (d : D) → PartRun Move old ds mid
    → Move mid d new → PartRun Move old (ds ++ d ∷ []) new
part_run_more Move old mid new [] d run step = (new, subst (λ s. Move s d new) run step, refl)
part_run_more Move old mid new (x ∷ ds) d run step = (run.0, run.1, part_run_more Move run.0 mid new ds d run.2 step)

all_more : {X : Type 0} (P : X → Type 0) (xs : List X) (x : X) → AllByRecursion P xs → P x → AllByRecursion P (xs ++ x ∷ [])
all_more P [] x all this = (this, tt)
all_more P (y ∷ xs) x all this = (all.0, all_more P xs x all.1 this)

-- what a rank did so far: it takes its turns by its plan, and nobody but its own keys knows more of what it met
pub record WentSoFar (plan : Plan) (old : RankView) (now : Station) (deeds : List Deed) : Type 0 where
  pub site : now.rank.site ≡ old.rank.site
  pub own : AllByRecursion (λ (d : Deed). d.rank ≡ old.rank.site.number) deeds
  pub alone : IsAlone old.rank deeds now.rank
  pub traced : now.events ≡ map event_of deeds
  pub keys : KeysGo old.rank.site.version old.sides deeds now.sides
  pub follows_plan : FollowsPlan plan now.events
  pub in_budget : length now.events ≤ plan.budget

pub no_turns_yet : (plan : Plan) (seat : Seat) → seat.rank.trace.events ≡ []
    → WentSoFar plan (view_of seat.rank) (station seat) []
no_turns_yet plan seat none = record {
  site = refl;
  own = tt;
  alone = refl;
  traced = none;
  keys = refl;
  follows_plan = λ n event at. let no = subst (λ es. slice_get es n ≡ Some event) none at in absurd (cc);
  in_budget = subst (λ (es : List Event). length es ≤ plan.budget) (sym none) (omega arith);
}

-- and so many turns later
pub record WentOn (plan : Plan) (old : RankView) (now : Station) (n : ℕ) (new : Station) : Type 0 where
  pub went : (deeds : List Deed) × WentSoFar plan old new deeds
  pub next_is : new.next ≡ length new.events % length plan.order.items
  pub runs : new.stop ≡ None
  pub longer : length new.events ≡ length now.events + n

-- one turn more, at the place in the plan that the rank's turns came to
module _ {D : Type 0} (gives : DeskRule D) (plan : Plan) (old : RankView) (now new : Station) (desk left : D)
    (deeds : List Deed) (so : WentSoFar plan old now deeds) (place : now.next ≡ length now.events % length plan.order.items)
    (turn : TakesTurn gives plan now desk new left) where
  pub longer : length new.events ≡ length now.events + 1
  longer = ap (λ (es : List Event). length es) turn.traced ∙ length-append now.events (event_of turn.deed ∷ [])

  pub next_place : new.next ≡ length new.events % length plan.order.items
  next_place =
      turn.next_is
      ∙ ap (λ n. (n + 1) % length plan.order.items) place
      ∙ mod-add-mod (length now.events) (length plan.order.items) 1
      ∙ ap (λ n. n % length plan.order.items) (sym longer)

  pub one_more_turn : now.budget ≡ plan.budget → WentSoFar plan old new (deeds ++ turn.deed ∷ [])
  one_more_turn budget_is = record {
    site = ap (λ (x : Rank). x.site) turn.moves.4
        ∙ (told_at now.rank turn.deed.hart (answer_of turn.deed.act) turn.deed.stamp).site ∙ so.site;
    own = all_more (λ (d : Deed). d.rank ≡ old.rank.site.number) deeds turn.deed so.own
        (turn.rank_is ∙ ap (λ s. s.number) so.site);
    alone = part_run_more RankMoves old.rank now.rank new.rank deeds turn.deed so.alone turn.moves;
    traced = turn.traced ∙ ap (λ es. es ++ event_of turn.deed ∷ []) so.traced
        ∙ sym (map-append event_of deeds (turn.deed ∷ []));
    keys = part_run_more (λ (a : Sides) (d : Deed) (b : Sides). KeysMove old.rank.site.version d.stamp d.act a b)
        old.sides now.sides new.sides deeds turn.deed so.keys
        (subst (λ v. KeysMove v turn.deed.stamp turn.deed.act now.sides new.sides) (ap (λ s. s.version) so.site) turn.keys);
    follows_plan = λ n e at. elim (last_or_before now.events (event_of turn.deed) e n (subst (λ es. slice_get es n ≡ Some e) turn.traced at)) [
      | inl before ↦ so.follows_plan n e before
      | inr last ↦ ap (λ (x : Event). x.hart) (sym last.1) ∙ turn.hart_is ∙ ap (slice_index plan.order.items) place
          ∙ ap (in_slot plan.order.items) (sym last.0)
    ];
    in_budget = omega (arith, turn.turns_left, budget_is, longer);
  }

-- a desk that is told nothing
nobody : DeskRule (Unit {0})
nobody before rank hart clock request told after = Unit {0}

-- several plain turns more
plain_turns_more : (plan : Plan) (old : RankView) (n : ℕ) (now new : Station)
    → ((deeds : List Deed) × WentSoFar plan old now deeds) → now.next ≡ length now.events % length plan.order.items
    → now.budget ≡ plan.budget → now.stop ≡ None → Repeats (TakesPlainTurn plan) n now new
    → WentOn plan old now n new
plain_turns_more plan old zero now new so place budget runs same =
    subst (λ (s : Station). WentOn plan old now 0 s) (sym same)
    (record { went = so; next_is = place; runs = runs; longer = omega arith })
plain_turns_more plan old (suc n) now new so place budget runs turns =
    let turn = plain_turn nobody plan now turns.0 tt turns.1 in
    let more = longer nobody plan old now turns.0 tt tt so.0 so.1 place turn in
    let rest = plain_turns_more plan old n turns.0 new
    (so.0 ++ turn.deed ∷ [], one_more_turn nobody plan old now turns.0 tt tt so.0 so.1 place turn budget)
    (next_place nobody plan old now turns.0 tt tt so.0 so.1 place turn) (turns.1.budget_stays ∙ budget)
    turns.1.goes_on turns.2 in
    let far = rest.longer in
    record { went = rest.went; next_is = rest.next_is; runs = rest.runs; longer = omega (arith, far, more) }

-- the same of a seat that is at the plan of the one that it was at first
pub seat_went : (first now new : Seat) (n : ℕ)
    → ((deeds : List Deed) × WentSoFar first.plan.now (view_of first.rank) (station now) deeds)
    → now.plan.now ≡ first.plan.now → now.next ≡ length now.rank.trace.events % length first.plan.now.order.items
    → now.stop ≡ None → Repeats (TakesPlainTurn now.plan.now) n (station now) (station new)
    → WentOn first.plan.now (view_of first.rank) (station now) n (station new)
seat_went first now new n so same place runs turns =
    plain_turns_more first.plan.now (view_of first.rank) n (station now) (station new) so place
    (now.budget_is ∙ ap (λ (p : Plan). p.budget) same) runs
    (subst (λ p. Repeats (TakesPlainTurn p) n (station now) (station new)) same turns)

-- no turn more, of the hart that the plan names
module _ (plan : Plan) (rank : Rank) (events : List Event) (hart budget : ℕ)
    (is : hart ≡ in_slot plan.order.items (length events)) (budget_is : budget ≡ plan.budget) where
  has_turn : IsActive rank (length events) budget → HasTurn plan rank events
  has_turn active = record { runs = active.runs; left = omega (arith, active.left, budget_is); low = active.low }

  own_cause : (room : ℕ) (stop : Stop) → IsCause hart rank room (length events) budget stop
      → StopsFor plan rank events stop
  own_cause room Stop.AllEnded h = h
  own_cause room Stop.Budget h = (h.0, h.1 ∙ budget_is)
  own_cause room Stop.Memory h = has_turn h.0
  own_cause room (Stop.ClockFull c) h = (omega (arith, h.3), inl (sym h.2, h.0, omega (arith, h.1, budget_is)))
  own_cause room (Stop.Calls n) h = absurd h

  refused_cause : (f : HubFault) → HasTurn plan rank events → AsksHub plan rank events → IsFault f
      → StopsFor plan rank events (stop_of f)
  refused_cause fault.Memory turn asks h = turn
  refused_cause (fault.ClockFull c) turn asks h = (omega (arith, h), inr (turn, asks))
  refused_cause (fault.Calls n) turn asks h = (h, turn, asks)

  -- whatever else is known of a refusal
  pub stops_for : (A : Type 0) (B : HubFault → Request → Type 0) (room : ℕ) (stop : Stop)
      → (IsCause hart rank room (length events) budget stop × A)
      ⊎ (IsActive rank (length events) budget
      × ((f : HubFault) × (stop ≡ stop_of f) × IsFault f
      × ((request : Request) × (asked rank hart ≡ Ask.Hub request) × B f request)))
      → StopsFor plan rank events stop
  stops_for A B room stop h = elim h [
    | inl own ↦ own_cause room stop own.0
    | inr refused ↦
        let f = refused.1.0 in
        let asks = refused.1.3 in
        subst (StopsFor plan rank events) (sym refused.1.1)
        (refused_cause f (has_turn refused.0) (asks.0, ap (asked rank) (sym is) ∙ asks.1) refused.1.2)
  ]

-- it stopped as it was
pub went_by : {D : Type 0} (gives : DeskRule D) (plan : Plan) (old : RankView) (now : Station) (seat : Seat) (desk left : D)
    (deeds : List Deed) → WentSoFar plan old now deeds → now.next ≡ length now.events % length plan.order.items
    → now.budget ≡ plan.budget → (h : Stops gives plan now desk (station seat) left)
    → WentBy plan old (view_of seat.rank) h.stop deeds
went_by gives plan old now seat desk left deeds so place budget_is h =
    let hart : h.hart ≡ in_slot plan.order.items (length now.events) =
    h.hart_is ∙ ap (slice_index plan.order.items) place in
    let stops = stops_for plan now.rank now.events h.hart now.budget hart budget_is _ _ h.room h.stop h.holds in
    record {
      own = so.own;
      alone = subst (IsAlone old.rank deeds) (sym h.rank_stays) so.alone;
      traced = h.events_stay ∙ so.traced;
      keys = subst (KeysGo old.rank.site.version old.sides deeds) (sym h.sides_stay) so.keys;
      follows_plan = subst (FollowsPlan plan) (sym h.events_stay) so.follows_plan;
      in_budget = subst (λ (es : List Event). length es ≤ plan.budget) (sym h.events_stay) so.in_budget;
      stops = subst (λ x. StopsFor plan x (station seat).events h.stop) (sym h.rank_stays)
          (subst (λ es. StopsFor plan now.rank es h.stop) (sym h.events_stay) stops);
    }

-- whether a seat took a turn or stopped is told by its stop; its plan is the one that it had
module _ {D : Type 0} (gives : DeskRule D) (plan kept : Plan) (now new : Station) (desk left : D) (same : plan ≡ kept)
    (goes : GoesOn gives plan now desk new left) where
  pub turned_by : new.stop ≡ None → TakesTurn gives kept now desk new left
  turned_by on = subst (λ p. TakesTurn gives p now desk new left) same (elim goes [
    | inl turn ↦ turn
    | inr stops ↦ (let both : None ≡ Some stops.stop = sym on ∙ stops.stops in absurd (cc))
  ])

  pub stopped_by : IsTrue (is_some new.stop) → Stops gives kept now desk new left
  stopped_by end = subst (λ p. Stops gives p now desk new left) same (elim goes [
    | inl turn ↦ (let none = ap is_some turn.goes_on in absurd (cc))
    | inr stops ↦ stops
  ])

-- a seat that took a turn more, of whatever kind
pub turn_went : {D : Type 0} (gives : DeskRule D) (first now new : Seat) (desk left : D)
    → ((deeds : List Deed) × WentSoFar first.plan.now (view_of first.rank) (station now) deeds)
    → now.plan.now ≡ first.plan.now → now.next ≡ length now.rank.trace.events % length first.plan.now.order.items
    → new.stop ≡ None → GoesOn gives now.plan.now (station now) desk (station new) left
    → WentOn first.plan.now (view_of first.rank) (station now) 1 (station new)
turn_went gives first now new desk left so same place on goes =
    let plan = first.plan.now in
    let old = view_of first.rank in
    let turn = turned_by gives now.plan.now plan (station now) (station new) desk left same goes on in
    let budget = now.budget_is ∙ ap (λ (p : Plan). p.budget) same in
    let more = longer gives plan old (station now) (station new) desk left so.0 so.1 place turn in
    record {
      went = (
        so.0 ++ turn.deed ∷ [],
        one_more_turn gives plan old (station now) (station new) desk left so.0 so.1 place turn budget,
      );
      next_is = next_place gives plan old (station now) (station new) desk left so.0 so.1 place turn;
      runs = on;
      longer = more;
    }

-- and one that stopped in place of it
pub seat_stopped : {D : Type 0} (gives : DeskRule D) (first now new : Seat) (desk left : D)
    → ((deeds : List Deed) × WentSoFar first.plan.now (view_of first.rank) (station now) deeds)
    → now.plan.now ≡ first.plan.now → now.next ≡ length now.rank.trace.events % length first.plan.now.order.items
    → IsTrue (is_some new.stop) → GoesOn gives now.plan.now (station now) desk (station new) left
    → (deeds : List Deed) × (stop : Stop) × (new.stop ≡ Some stop)
    × WentBy first.plan.now (view_of first.rank) (view_of new.rank) stop deeds
seat_stopped gives first now new desk left so same place end goes =
    let plan = first.plan.now in
    let h = stopped_by gives now.plan.now plan (station now) (station new) desk left same goes end in
    let budget = now.budget_is ∙ ap (λ (p : Plan). p.budget) same in (
      so.0,
      h.stop,
      h.stops,
      went_by gives plan (view_of first.rank) (station now) new desk left so.0 so.1 place budget h,
    )

-- the plan of a rank that is told to stop after these events
pub cut_of : Plan → List Event → Plan
cut_of plan events = record plan { budget = length events }

-- a rank that is told to stop as it is went by that plan
pub told_by : (plan : Plan) (old : RankView) (seat : Seat) (deeds : List Deed) → WentSoFar plan old (station seat) deeds
    → ¬ (AllStopped (station seat).rank)
    → WentBy (cut_of plan (station seat).events) old (view_of seat.rank) Stop.Budget deeds
unfolding cut_of
told_by plan old seat deeds so runs = record {
  own = so.own;
  alone = so.alone;
  traced = so.traced;
  keys = so.keys;
  follows_plan = so.follows_plan;
  in_budget = omega arith;
  stops = (runs, refl);
}

-- which is shorter than its own
pub is_cut : (plan : Plan) (events : List Event) → 1 ≤ length events → length events < plan.budget
    → IsCutPlan plan (cut_of plan events) Stop.Budget
unfolding cut_of
is_cut plan events some fewer = record { order_stays = refl; some = some; fewer = fewer; told = refl }

-- a rank that isn't told to stop goes by its own plan
pub by_own : (until : Until) (plan : Plan) (stop : Stop) → IsBy until plan plan stop
by_own Until.Planned plan stop = refl
by_own Until.Told plan stop = inl refl

-- and one that is, by that one, where ranks are told to
pub by_cut : (until : Until) (plan : Plan) (events : List Event) → until ≡ Until.Told → 1 ≤ length events
    → length events < plan.budget → IsBy until plan (cut_of plan events) Stop.Budget
by_cut Until.Planned plan events told some fewer = absurd (cc)
by_cut Until.Told plan events told some fewer = inr (is_cut plan events some fewer)
