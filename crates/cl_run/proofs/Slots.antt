-- What one slot of the order does.
use Rattle.std.specs.Prelude.{ℕ, ◌≡◌, ◌<◌, ◌≤◌, ◌+◌, Bool, true, false, cond, List, [], ◌∷◌, length, map, slice_get}
use Rattle.std.specs.Prelude.{slice_set, Option, None, Some, is_some, sum_by, slice_index, ◌||◌, All}
use Rattle.std.proofs.Common.{refl, sym, ap, ◌∙◌, subst, arith}
use Rattle.std.proofs.lemmas.Bool.Decides.{eqb_tells}
use Rattle.std.proofs.lemmas.List.{length-append, length-set, map-set}
use Rattle.std.proofs.lemmas.List.Sums.{sum_by-set}
use Rattle.std.proofs.lemmas.Option.{get_or_from_slice_get, same_Some, slice_get_within}
use Rattle.std.proofs.lemmas.Bool.{false≢true}
use borrow.Author.Count.{below_more}
use mathlib.Core.Logic.{inl, inr}
use Rattle.rv_image_types.specs.declared.images.ImageParts.{ImageParts}
use Rattle.rv_image_types.specs.declared.images.Link.{Link}
use Rattle.rv_image_types.specs.Image.{IsLink}
use Rattle.part_channel.specs.Channels.{ChannelView}
use Rattle.cl_journal.specs.Replaying.{HubHistory}
use Rattle.cl_trace.specs.declared.events.Event.{Event}
use Rattle.cl_deeds.specs.Deeds.{event_of}
use Rattle.cl_rank.specs.RankSides.{AreChannelsOf}
use Rattle.cl_rank.specs.Turning.{Answered}
use Rattle.cl_rank.specs.declared.stops.Stop.{Stop}
use Rattle.cl_run.specs.declared.driver.Driver.{Driver}
use Rattle.cl_record.specs.declared.seats.Seat.{Seat}
use Rattle.cl_record.specs.declared.plans.Plan.{Plan}
use Rattle.cl_record.specs.Seats.{GoesOn}
use Rattle.cl_run.specs.Driver.{Agree, AreJoined, AreSeated, IsJoined, IsStoppedAt, OneGoes, SlotGoes}
use Rattle.cl_record.specs.Seats.{Station, station}
use Rattle.cl_run.specs.Driver.{left, left_of, stations}
use Rattle.cl_record.specs.BoxKeys.{HasKeysOf}
use Rattle.cl_deeds.specs.Orders.{in_slot}
use Rattle.cl_run.specs.UnderWay.{IsUnderWay}
use Rattle.cl_machine.proofs.Lists.{get-set_same, get-set_other}
use Rattle.cl_record.proofs.Elements.{at_below, link_at}
use Rattle.cl_run.proofs.Joined.{goes_joined, links_stay}
use Rattle.cl_run.proofs.Seats.{station_at}
use Rattle.cl_run.proofs.UnderWay.{slot_passed, slot_stopped, slot_taken}

pub stations_then : (old new : Driver) (r : ℕ) (seat : Seat) → new.seats.items ≡ slice_set old.seats.items r seat
    → stations new ≡ slice_set (stations old) r (station seat)
stations_then old new r seat e = ap (map station) e ∙ map-set station old.seats.items r seat

module _ (r : ℕ) (old new : Driver) where
  -- the run goes on
  module _ (image : ImageParts) (plans : List Plan) (order : List ℕ) (slot : ℕ) (at : in_slot order slot ≡ r)
      (seated : AreSeated plans old) where
    planned_at : (seat : Seat) → slice_get old.seats.items r ≡ Some seat → slice_get plans r ≡ Some seat.plan.now
    planned_at seat there =
        let inside = slice_get_within old.seats.items r seat there in
        let plan = at_below plans r (let e = seated.one_each in omega (arith, inside, e)) in
        plan.1 ∙ ap Some (sym (seated.each r plan.0 seat plan.1 there))

    one_goes : OneGoes r old new → IsUnderWay image plans order (stations old) old.hub slot
        → IsUnderWay image plans order (stations new) new.hub (slot + 1)
    one_goes h w =
        let there_r = station_at old.seats.items r h.seat h.there in
        let there : slice_get (stations old) (in_slot order slot) ≡ Some (station h.seat) =
        ap (slice_get (stations old)) at ∙ there_r in
        let plan = h.seat.plan.now in
        let planned_here : slice_get plans (in_slot order slot) ≡ Some plan =
        ap (slice_get plans) at ∙ planned_at h.seat h.there in
        let then_is : slice_set (stations old) (in_slot order slot) (station h.later) ≡ stations new =
        ap (λ k. slice_set (stations old) k (station h.later)) at ∙ sym (stations_then old new r h.later h.seats_are) in
        let apart = λ (link : ℕ) (l : Link) (e : slice_get old.hub.links link ≡ Some l).
        (link_at (length old.seats.items) old.hub.links link l seated.joined.links e).differ in
        let keys = subst (λ q. HasKeysOf old.hub.links q (station h.seat).sides) (sym at)
        (seated.joined.each r (station h.seat) there_r).keys in
        let agree = subst (λ ss. Agree old.hub.links ss (station h.later).asked) (sym then_is) h.agree in
        subst (λ ss. IsUnderWay image plans order ss new.hub (slot + 1)) then_is
        (elim h.goes [
          | inl turn ↦ slot_taken image plans order (stations old) slot (station h.seat) (station h.later) plan there
              planned_here h.runs old.hub new.hub turn apart keys agree w
          | inr stops ↦ slot_stopped image plans order (stations old) slot (station h.seat) (station h.later) plan there
              planned_here h.runs old.hub new.hub stops w
        ])

    pub slot_goes : (moved : Bool) → SlotGoes r old new moved
        → IsUnderWay image plans order (stations old) old.hub slot
        → IsUnderWay image plans order (stations new) new.hub (slot + 1)
    slot_goes false h w =
        subst (λ (d : Driver). IsUnderWay image plans order (stations d) d.hub (slot + 1)) (sym h.0)
        (slot_passed image plans order (stations old) slot old.hub (subst (IsStoppedAt (stations old)) (sym at) h.1) w)
    slot_goes true h w = one_goes h w

  -- one seat is another, and each rank is joined
  pub set_joined : (seat later : Seat) → slice_get old.seats.items r ≡ Some seat
      → IsJoined old.hub.links old.channels.items r (station later) → new.hub.links ≡ old.hub.links
      → new.seats.items ≡ slice_set old.seats.items r later → new.channels.items ≡ old.channels.items
      → AreJoined old → AreJoined new
  set_joined seat later at_seat later_joined links_are seats_are channels_stay j =
      let count : length new.seats.items ≡ length old.seats.items =
      ap (λ (xs : List Seat). length xs) seats_are ∙ length-set old.seats.items r later in
      let there = station_at old.seats.items r seat at_seat in
      let then_is = stations_then old new r later seats_are in
      record {
        few = subst (λ (ls : List Link). length ls ≤ 32) (sym links_are) j.few;
        one_each = ap (λ (cs : List ChannelView). length cs) channels_stay ∙ j.one_each
            ∙ ap (λ (ls : List Link). length ls) (sym links_are);
        links = subst (All (IsLink (length new.seats.items))) (sym links_are)
            (subst (λ n. All (IsLink n) old.hub.links) (sym count) j.links);
        each = λ q x at.
            subst (λ ls. IsJoined ls new.channels.items q x) (sym links_are)
            (subst (λ cs. IsJoined old.hub.links cs q x) (sym channels_stay)
            (elim (eqb_tells r q) [
              | inl same ↦
                  let later_is : station later ≡ x = same_Some (station later) x
                  (sym (get-set_same (stations old) r (station seat) (station later) there)
                  ∙ ap (slice_get (slice_set (stations old) r (station later))) same.1
                  ∙ ap (λ ss. slice_get ss q) (sym then_is)
                  ∙ at) in
                  subst (λ k. IsJoined old.hub.links old.channels.items k x) same.1
                  (subst (IsJoined old.hub.links old.channels.items r) later_is later_joined)
              | inr other ↦ j.each q x
                  (sym (get-set_other (stations old) r q (station later) other.1)
                  ∙ ap (λ ss. slice_get ss q) (sym then_is)
                  ∙ at)
            ]));
      }

  -- so each rank stays joined
  pub seats_joined : (seat later : Seat) → slice_get old.seats.items r ≡ Some seat
      → GoesOn Answered seat.plan.now (station seat) old.hub (station later) new.hub
      → AreChannelsOf (station later).rank.site.version old.channels.items (station later).sides
      → new.seats.items ≡ slice_set old.seats.items r later → new.channels.items ≡ old.channels.items
      → AreJoined old → AreJoined new
  seats_joined seat later at_seat goes channels seats_are channels_stay j =
      set_joined seat later at_seat
      (goes_joined old.hub.links old.channels.items r seat.plan.now (station seat) (station later) old.hub new.hub
      (j.each r (station seat) (station_at old.seats.items r seat at_seat)) channels goes)
      (links_stay seat.plan.now (station seat) (station later) old.hub new.hub goes) seats_are channels_stay j

  -- and its seats stay as many
  pub slot_count : (moved : Bool) → SlotGoes r old new moved → length new.seats.items ≡ length old.seats.items
  slot_count false h = ap (λ (d : Driver). length d.seats.items) h.0
  slot_count true h = ap (λ (xs : List Seat). length xs) h.seats_are ∙ length-set old.seats.items r h.later

  pub slot_joined : (moved : Bool) → SlotGoes r old new moved → AreJoined old → AreJoined new
  slot_joined false h j = subst AreJoined (sym h.0) j
  slot_joined true h j = seats_joined h.seat h.later h.there h.goes h.channels h.seats_are h.channels_stay j

  -- one seat is another at the same plan
  pub set_seated : (plans : List Plan) (seat later : Seat) → slice_get old.seats.items r ≡ Some seat
      → later.plan.now ≡ seat.plan.now → new.seats.items ≡ slice_set old.seats.items r later → AreJoined new
      → AreSeated plans old → AreSeated plans new
  set_seated plans seat later there plan_stays seats_are joined a = record {
    one_each = ap (λ (xs : List Seat). length xs) seats_are ∙ length-set old.seats.items r later ∙ a.one_each;
    each = λ q p x at_plan at. elim (eqb_tells r q) [
      | inl same ↦
          let seat_is : later ≡ x = same_Some later x
          (sym (get-set_same old.seats.items r seat later there)
          ∙ ap (slice_get (slice_set old.seats.items r later)) same.1
          ∙ ap (λ xs. slice_get xs q) (sym seats_are)
          ∙ at) in
          ap (λ (y : Seat). y.plan.now) (sym seat_is) ∙ plan_stays
          ∙ a.each r p seat (ap (slice_get plans) same.1 ∙ at_plan) there
      | inr other ↦ a.each q p x at_plan
          (sym (get-set_other old.seats.items r q later other.1) ∙ ap (λ xs. slice_get xs q) (sym seats_are) ∙ at)
    ];
    joined = joined;
  }

  -- each seat stays at its plan
  pub slot_seated : (plans : List Plan) (moved : Bool) → SlotGoes r old new moved
      → AreSeated plans old → AreSeated plans new
  slot_seated plans false h a = subst (AreSeated plans) (sym h.0) a
  slot_seated plans true h a =
      set_seated plans h.seat h.later h.there h.plan_stays h.seats_are (slot_joined true h a.joined) a

  -- a slot in which something was done leaves less
  less_of : (plan : Plan) (s t : Station) (before after : HubHistory) → s.stop ≡ None → GoesOn Answered plan s before t after
      → left_of t + 1 ≤ left_of s
  less_of plan s t before after runs h = elim h [
    | inl turn ↦
        let n : length t.events ≡ length s.events + 1 = ap (λ (es : List Event). length es) turn.traced
        ∙ length-append s.events (event_of turn.deed ∷ []) in
        let a : ◌≡◌ {A = ℕ} (cond (is_some t.stop) 0 1) 1 = ap {B = ℕ} (λ (o : Option Stop). cond (is_some o) 0 1) turn.goes_on in
        let b : ◌≡◌ {A = ℕ} (cond (is_some s.stop) 0 1) 1 = ap {B = ℕ} (λ (o : Option Stop). cond (is_some o) 0 1) runs in
        omega (arith, n, a, b, turn.turns_left, turn.budget_stays)
    | inr stops ↦
        let n : length t.events ≡ length s.events = ap (λ (es : List Event). length es) stops.events_stay in
        let a : ◌≡◌ {A = ℕ} (cond (is_some t.stop) 0 1) 0 = ap {B = ℕ} (λ (o : Option Stop). cond (is_some o) 0 1) stops.stops in
        let b : ◌≡◌ {A = ℕ} (cond (is_some s.stop) 0 1) 1 = ap {B = ℕ} (λ (o : Option Stop). cond (is_some o) 0 1) runs in
        omega (arith, n, a, b, stops.budget_stays)
  ]

  pub slot_left : (moved : Bool) → SlotGoes r old new moved → left new + cond moved 1 0 ≤ left old
  slot_left false h = omega (arith, ap left h.0)
  slot_left true h =
      let at = station_at old.seats.items r h.seat h.there in
      let inside = slice_get_within (stations old) r (station h.seat) at in
      let total = sum_by-set left_of (stations old) r (station h.later) (station h.seat) inside in
      let here = ap left_of (get_or_from_slice_get (stations old) r (station h.seat) (station h.seat) at) in
      let then_is = ap (sum_by left_of) (stations_then old new r h.later h.seats_are) in
      omega (arith, total, here, then_is, less_of h.seat.plan.now (station h.seat) (station h.later) old.hub new.hub h.runs h.goes)

-- whether anything was done up to a place of the order, and there
pub done_more : (old new : Driver) (order : List ℕ) (i : ℕ) (moved went : Bool)
    → SlotGoes (slice_index order i) old new went
    → (moved ≡ false → (place : ℕ) → place < i → IsStoppedAt (stations old) (slice_index order place))
    → (moved || went) ≡ false → (place : ℕ) → place < i + 1 → IsStoppedAt (stations new) (slice_index order place)
done_more old new order i true went h done e = absurd (false≢true (sym e))
done_more old new order i false true h done e = absurd (false≢true (sym e))
done_more old new order i false false h done e =
    subst (λ d. (place : ℕ) → place < i + 1 → IsStoppedAt (stations d) (slice_index order place)) (sym h.0)
    (below_more (λ place. IsStoppedAt (stations old) (slice_index order place)) i (done refl) h.1)

pub less_more : (first then_left last : ℕ) (moved went : Bool) → then_left + cond moved 1 0 ≤ first
    → last + cond went 1 0 ≤ then_left → last + cond (moved || went) 1 0 ≤ first
less_more first then_left last true true p q = omega (arith, p, q)
less_more first then_left last true false p q = omega (arith, p, q)
less_more first then_left last false true p q = omega (arith, p, q)
less_more first then_left last false false p q = omega (arith, p, q)
