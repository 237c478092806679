-- Seats that are told to stop where they haven't, and the plans that they stop by.
use Rattle.std.specs.Prelude.{ℕ, ◌≡◌, ◌≤◌, Bool, true, false, List, [], ◌∷◌, length, map, slice_get, IfSome}
use Rattle.std.specs.Prelude.{Option, None, Some, if◌then◌else◌}
use Rattle.std.proofs.Common.{suc, refl, sym, ap, ◌∙◌, subst, arith}
use Rattle.std.proofs.lemmas.Bool.{false≢true}
use Rattle.std.proofs.lemmas.List.{length-map}
use Rattle.std.proofs.lemmas.Option.{same_Some, slice_get_within}
use Rattle.std.proofs.lemmas.Simd.{map-map}
use Rattle.rv_image_types.specs.declared.images.ImageParts.{ImageParts}
use Rattle.cl_journal.specs.declared.entries.Entry.{Entry}
use Rattle.cl_machine.specs.Boxes.{box_number}
use Rattle.cl_machine.specs.Cluster.{IsRun, loaded_cluster}
use Rattle.cl_machine.specs.declared.steps.Step.{Step}
use Rattle.cl_deeds.specs.Turns.{all_stopped}
use Rattle.cl_rank.specs.declared.stops.Stop.{Stop}
use Rattle.cl_record.proofs.Elements.{at_below, from_map, to_map}
use Rattle.cl_record.specs.BoxKeys.{IsBoxOf}
use Rattle.cl_record.specs.Seats.{Station, station}
use Rattle.cl_record.specs.declared.plans.Plan.{Plan}
use Rattle.cl_record.specs.declared.seats.Seat.{Seat}
use Rattle.cl_run.proofs.Rounds.{more_done}
use Rattle.cl_run.proofs.Seats.{station_at}
use Rattle.cl_run.specs.Cuts.{AreCuts, IsCut}
use Rattle.cl_run.specs.Driver.{AreSeated, IsStoppedAt, last_stop, stations, told_stop}
use Rattle.cl_run.specs.Runs.{HasCause}
use Rattle.cl_run.specs.UnderWay.{IsSoFar, IsUnderWay, shown}
use Rattle.cl_run.specs.declared.driver.Driver.{Driver}

-- the turns that a rank gets: those that it took where it is told to stop
pub last_budget : Option Stop → ℕ → ℕ → ℕ
last_budget None turns budget = turns
last_budget (Some stop) turns budget = budget

abbrev pub closed_of : Station → Option Stop → Station
closed_of s o = record s { budget = last_budget o (length s.events) s.budget; stop = Some (last_stop s.rank o) }

abbrev pub cut_of : Plan → Station → Option Stop → Plan
cut_of plan s o = record plan { budget = last_budget o (length s.events) plan.budget }

abbrev pub closed : Seat → Station
closed seat = closed_of (station seat) seat.stop

abbrev pub closed_plan : Seat → Plan
closed_plan seat = cut_of seat.plan.now (station seat) seat.stop

-- one that stopped stays as it is
closed_same : (seat : Seat) (stop : Stop) → seat.stop ≡ Some stop → closed seat ≡ station seat
unfolding last_budget
closed_same seat stop e =
    ap (closed_of (station seat)) e ∙ (λ i. record (station seat) { stop = (sym e) i })

pub all_closed : (seats : List Seat)
    → ((r : ℕ) (seat : Seat) → slice_get seats r ≡ Some seat → (stop : Stop) × (seat.stop ≡ Some stop))
    → map closed seats ≡ map station seats
all_closed [] stopped = refl
all_closed (seat ∷ seats) stopped =
    let own = stopped 0 seat refl in
    λ i. closed_same seat own.0 own.1 i ∷ all_closed seats (λ r s at. stopped (suc r) s at) i

told_cause : (plan : Plan) (s : Station) (entries : List Entry)
    → HasCause (cut_of plan s None) s.rank s.events entries (told_stop s.rank)
unfolding last_budget
told_cause plan s entries = by_end (all_stopped s.rank) refl
  where
    by_end : (b : Bool) → all_stopped s.rank ≡ b
        → HasCause (cut_of plan s None) s.rank s.events entries (if b then Stop.AllEnded else Stop.Budget)
    by_end true e = e
    by_end false e = (λ t. false≢true (sym e ∙ t), refl)

so_far_closed : (steps : List Step) (entries : List Entry) (r : ℕ) (plan : Plan) (s : Station) (o : Option Stop)
    → s.stop ≡ o → IsSoFar steps entries r plan s
    → IsSoFar steps entries r (cut_of plan s o) (closed_of s o)
unfolding last_budget
so_far_closed steps entries r plan s (Some stop) e so = record {
  number_is = so.number_is;
  low = so.low;
  budget_is = so.budget_is;
  in_budget = so.in_budget;
  next_is = so.next_is;
  steps_are = so.steps_are;
  requests_stand = so.requests_stand;
  requests_are = so.requests_are;
  follows_plan = so.follows_plan;
  calls_are = so.calls_are;
  few_calls = so.few_calls;
  has_cause = subst (λ o. IfSome o (HasCause plan s.rank s.events entries)) e so.has_cause;
}
so_far_closed steps entries r plan s None e so = record {
  number_is = so.number_is;
  low = so.low;
  budget_is = refl;
  in_budget = omega arith;
  next_is = so.next_is;
  steps_are = so.steps_are;
  requests_stand = so.requests_stand;
  requests_are = so.requests_are;
  follows_plan = so.follows_plan;
  calls_are = so.calls_are;
  few_calls = so.few_calls;
  has_cause = told_cause plan s entries;
}

fewer_turns : (o : Option Stop) (turns budget : ℕ) → turns ≤ budget → last_budget o turns budget ≤ budget
unfolding last_budget
fewer_turns None turns budget within = within
fewer_turns (Some stop) turns budget within = omega arith

module _ (image : ImageParts) (plans : List Plan) (order : List ℕ) (driver : Driver) (seated : AreSeated plans driver)
    (slot : ℕ) (w : IsUnderWay image plans order (stations driver) driver.hub slot) where
  planned : (r : ℕ) (seat : Seat) → slice_get driver.seats.items r ≡ Some seat
      → (slice_get plans r ≡ Some seat.plan.now)
  planned r seat there =
      let inside = slice_get_within driver.seats.items r seat there in
      let plan = at_below plans r (let e = seated.one_each in omega (arith, inside, e)) in
      plan.1 ∙ ap Some (sym (seated.each r plan.0 seat plan.1 there))

  so_far : (r : ℕ) (seat : Seat) → slice_get driver.seats.items r ≡ Some seat
      → IsSoFar w.steps driver.hub.entries r seat.plan.now (station seat)
  so_far r seat there =
      w.each r seat.plan.now (station seat) (planned r seat there) (station_at driver.seats.items r seat there)

  stopped_still : (r : ℕ) → IsStoppedAt (stations driver) r → IsStoppedAt (map closed driver.seats.items) r
  stopped_still r h =
      let seat = from_map station driver.seats.items r h.0 h.2 in (
        closed seat.0,
        last_stop (station seat.0).rank seat.0.stop,
        to_map closed driver.seats.items r seat.0 seat.1,
        refl,
      )

  -- the run so far, where each seat is told to stop
  pub closed_under_way : IsUnderWay image (map closed_plan driver.seats.items) order (map closed driver.seats.items)
      driver.hub slot
  closed_under_way = record {
    links_are = w.links_are;
    low = w.low;
    sites = λ r s at.
        let seat = from_map closed driver.seats.items r s at in
        ap (λ (x : Station). x.rank.site) (sym seat.2)
        ∙ w.sites r (station seat.0) (station_at driver.seats.items r seat.0 seat.1);
    steps = w.steps;
    boxes = w.boxes;
    are_boxes = λ link part l at low.
        let old = w.are_boxes link part l at low in
        let from = from_map station driver.seats.items l.from old.0 old.2 in
        let to = from_map station driver.seats.items l.to old.1 old.3 in (
          closed from.0,
          closed to.0,
          to_map closed driver.seats.items l.from from.0 from.1,
          to_map closed driver.seats.items l.to to.0 to.1,
          subst (λ (x : Station). IsBoxOf image.version x.sides (station to.0).sides link part
              (slice_get w.boxes (box_number link part))) (sym from.2)
              (subst (λ (x : Station). IsBoxOf image.version old.0.sides x.sides link part
              (slice_get w.boxes (box_number link part))) (sym to.2) old.4),
        );
    run = subst (λ rs. IsRun (loaded_cluster image) w.steps (record {
      ranks = rs;
      journal = shown driver.hub;
      boxes = w.boxes;
    }))
        (map-map (λ (s : Station). s.rank) station driver.seats.items
        ∙ sym (map-map (λ (s : Station). s.rank) closed driver.seats.items)) w.run;
    none_idles = w.none_idles;
    round = more_done order (IsStoppedAt (stations driver)) (IsStoppedAt (map closed driver.seats.items)) stopped_still 0
        (map (λ (e : Step). e.rank) w.steps) slot w.round;
    each = λ r plan s at_plan at.
        let seat = from_map closed driver.seats.items r s at in
        let own = from_map closed_plan driver.seats.items r plan at_plan in
        let plan_is : closed_plan seat.0 ≡ plan =
        ap closed_plan (same_Some seat.0 own.0 (sym seat.1 ∙ own.1)) ∙ own.2 in
        subst (IsSoFar w.steps driver.hub.entries r plan) seat.2
        (subst (λ p. IsSoFar w.steps driver.hub.entries r p (closed seat.0)) plan_is
        (so_far_closed w.steps driver.hub.entries r seat.0.plan.now (station seat.0) seat.0.stop refl
        (so_far r seat.0 seat.1)));
  }

  pub are_cuts : AreCuts plans (map closed_plan driver.seats.items)
  are_cuts = record {
    one_each = length-map driver.seats.items closed_plan ∙ seated.one_each;
    each = λ r plan cut at_plan at_cut.
        let seat = from_map closed_plan driver.seats.items r cut at_cut in
        subst (IsCut plan) seat.2
        (subst (λ p. IsCut p (closed_plan seat.0)) (seated.each r plan seat.0 at_plan seat.1)
        (record {
          order_stays = refl;
          no_more = fewer_turns seat.0.stop (length (station seat.0).events) seat.0.plan.now.budget
              (so_far r seat.0 seat.1).in_budget;
        }));
  }
