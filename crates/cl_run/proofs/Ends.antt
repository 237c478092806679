-- How a run begins and ends.
use Rattle.std.specs.Prelude.{ℕ, ◌≡◌, ◌<◌, ◌≤◌, ◌+◌, ◌*◌, ◌^◌, List, [], length, map, replicate}
use Rattle.std.specs.Prelude.{slice_get, slice_index, None, Some, is_some, All, IfSome}
use Rattle.std.proofs.Common.{refl, sym, ap, ◌∙◌, subst, arith}
use Rattle.std.proofs.Math.Nat.{zero-mod}
use Rattle.std.proofs.lemmas.List.{get_or-replicate, get_or_read, length-map, length-replicate}
use Rattle.std.proofs.lemmas.List.Elements.{All-nil}
use Rattle.std.proofs.lemmas.Simd.{map-map}
use Rattle.std.proofs.lemmas.Option.{same_Some, slice_get-get_or}
use Rattle.std.proofs.lemmas.Option.{slice_get_within}
use Rattle.rv_image_types.specs.declared.images.ImageParts.{ImageParts}
use Rattle.rv_image_types.specs.declared.images.Link.{Link}
use Rattle.rv_image_types.specs.Image.{IsLink}
use Rattle.part_box.specs.declared.settled.Settled.{Settled}
use Rattle.part_box.specs.Settling.{IsSettled}
use Rattle.part_box.specs.Steps.{nothing_received, nothing_sent}
use Rattle.part_box.proofs.GateKept.{starts}
use Rattle.part_phase.specs.Limits.{box_words}
use Rattle.cl_calls.specs.declared.sites.Site.{Site}
use Rattle.cl_rank.specs.RankSides.{AreChannelsOf, HasSender, Sides, receiver_key, receiver_of, sender_key, sender_of}
use Rattle.cl_rank.specs.RankSides.{side_of}
use Rattle.cl_rank.specs.declared.ranks.Rank.{Rank as RankOfTurns}
use Rattle.cl_machine.specs.Boxes.{Box, box_number, empty_box}
use Rattle.cl_journal.specs.Journal.{stamp_after}
use Rattle.cl_journal.specs.declared.entries.Entry.{Entry}
use Rattle.cl_trace.specs.Traces.{TraceView}
use Rattle.cl_trace.specs.declared.events.Event.{Event}
use Rattle.cl_state.specs.Rank.{Rank, below, loaded}
use Rattle.cl_state.specs.Room.{rank_of}
use Rattle.cl_state.specs.declared.state.RankState.{RankState}
use Rattle.cl_rank.specs.declared.stops.Stop.{Stop}
use Rattle.cl_run.specs.declared.driver.Driver.{Driver}
use Rattle.cl_record.specs.declared.seats.Seat.{Seat}
use Rattle.cl_record.specs.declared.plans.Plan.{Plan}
use Rattle.cl_record.specs.declared.records.Record.{Record}
use Rattle.cl_machine.specs.declared.steps.Step.{Step}
use Rattle.cl_machine.specs.Cluster.{loaded_cluster}
use Rattle.cl_record.specs.Seats.{IsFresh, Station, station}
use Rattle.cl_run.specs.Driver.{AreSeated, IsDriver, IsJoined, IsLeftBy, IsStoppedAt}
use Rattle.cl_run.specs.Driver.{stations}
use Rattle.cl_machine.specs.Keys.{Shows}
use Rattle.cl_record.specs.BoxKeys.{HasKeysOf, box_of}
use Rattle.cl_record.specs.Plans.{ArePlans}
use Rattle.cl_record.specs.Records.{IsEndOf, is_hub}
use Rattle.cl_run.specs.Cuts.{IsEndedRun}
use Rattle.cl_run.specs.Runs.{HasCause, IsOneRun, IsRankOf}
use Rattle.cl_run.specs.UnderWay.{AreBoxes, IsSoFar, IsUnderWay, cluster_of}
use Rattle.cl_record.proofs.Leaves.{shows}
use Rattle.cl_record.specs.Leaving.{ends_of, state_of, stop_of, trace_of}
use Rattle.cl_record.specs.declared.done.Done.{Done}
use Rattle.cl_record.proofs.BoxesLeft.{left_in, some_sends}
use Rattle.cl_record.proofs.Elements.{at_below, from_map, link_at, to_map}
use Rattle.cl_run.proofs.Closed.{all_closed, are_cuts, closed, closed_plan, closed_under_way}
use Rattle.cl_run.proofs.Left.{as_many, done_at, seat_at, states_are}
use Rattle.cl_run.proofs.Rounds.{goes_round}
use Rattle.cl_run.proofs.Seats.{station_at}
use Rattle.cl_record.proofs.Wires.{new_keys, new_receiver_at, new_sender_at, over_channels}

rank_of_run : (steps : List Step) (entries : List Entry) (r : ℕ) (plan : Plan) (s : Station) (stop : Stop)
    → IsSoFar steps entries r plan s → s.stop ≡ Some stop
    → IsRankOf steps entries r plan s.events s.rank stop
rank_of_run steps entries r plan s stop so e = record {
  steps_are = so.steps_are;
  in_budget = so.in_budget;
  requests_stand = so.requests_stand;
  requests_are = so.requests_are;
  few_calls = subst (λ n. n ≤ 1048576) (sym so.calls_are) so.few_calls;
  follows_plan = so.follows_plan;
  has_cause = subst (λ o. IfSome o (HasCause plan s.rank s.events entries)) e so.has_cause;
}

get-replicate : {X : Type 0} (n i : ℕ) (x : X) → i < n → slice_get (replicate n x) i ≡ Some x
get-replicate n i x below =
    slice_get-get_or (replicate n x) i x (omega (arith, below, length-replicate n x))
    ∙ ap Some (get_or-replicate n i x x below)

module _ (image : ImageParts) (plans : List Plan) (order : List ℕ) (are : ArePlans image plans order) (driver : Driver) where
  start_station : ℕ → Plan → Sides → Station
  start_station r plan sides =
      record { rank = loaded image r; events = []; sides = sides; asked = None; next = 0; budget = plan.budget; stop = None }

  so_far_at_start : (r : ℕ) (plan : Plan) (sides : Sides) → IsSoFar [] [] r plan (start_station r plan sides)
  unfolding start_station
  so_far_at_start r plan sides = record {
    number_is = refl;
    low = omega arith;
    budget_is = refl;
    in_budget = omega arith;
    requests_stand = All-nil (λ (e : Event). is_some e.request ≡ is_hub e.kind);
    next_is = sym (zero-mod (length plan.order.items));
    steps_are = refl;
    requests_are = refl;
    follows_plan = λ n event at. absurd (cc);
    calls_are = refl;
    few_calls = omega arith;
    has_cause = tt;
  }

  module _ (d : IsDriver image plans driver) where
    fresh_at : (r : ℕ) (seat : Seat) → slice_get driver.seats.items r ≡ Some seat
        → IsFresh image driver.channels.items r seat
    fresh_at r seat at = d.fresh r seat at

    joined_at : (r : ℕ) (seat : Seat) → slice_get driver.seats.items r ≡ Some seat
        → IsJoined driver.hub.links driver.channels.items r (station seat)
    joined_at r seat at =
        let own = fresh_at r seat at in
        record {
          number_is = ap (λ (x : Rank). x.site.number) own.rank_is;
          links_are = ap (λ (x : Rank). x.site.links) own.rank_is ∙ sym d.links_are;
          keys = subst (λ ls. HasKeysOf ls r (station seat).sides) (sym d.links_are)
              (new_keys image.version image.links driver.channels.items r (station seat).sides own.ends);
          over = subst (λ v. AreChannelsOf v driver.channels.items (station seat).sides)
              (ap (λ (x : Rank). x.site.version) (sym own.rank_is))
              (over_channels image.version image.links driver.channels.items r (station seat).sides own.ends);
          asked = λ place e. let no = sym own.asks_none ∙ e in absurd (cc);
        }

    pub seated_at_start : AreSeated plans driver
    seated_at_start = record {
      one_each = d.count_is ∙ sym are.planned.one_each;
      each = d.plans_are;
      joined = record {
        few = subst (λ (ls : List Link). length ls ≤ 32) (sym d.links_are) d.few_links;
        one_each = d.channels_are ∙ ap (λ (ls : List Link). length ls) (sym d.links_are);
        links = subst (All (IsLink (length driver.seats.items))) (sym d.links_are)
            (subst (λ n. All (IsLink n) image.links) (sym d.count_is) d.joined);
        each = λ r s at.
            let seat = from_map station driver.seats.items r s at in
            subst (IsJoined driver.hub.links driver.channels.items r) seat.2 (joined_at r seat.0 seat.1);
      };
    }

    boxes_at_start : AreBoxes image (stations driver) (loaded_cluster image).boxes
    boxes_at_start link part l at low =
        let ends = link_at image.ranks image.links link l d.joined at in
        let from = at_below driver.seats.items l.from (omega (arith, ends.from_there, d.count_is)) in
        let to = at_below driver.seats.items l.to (omega (arith, ends.to_there, d.count_is)) in
        let sender = fresh_at l.from from.0 from.1 in
        let receiver = fresh_at l.to to.0 to.1 in
        let width = box_words image.version in
        let inside = slice_get_within image.links link l at in (
          station from.0,
          station to.0,
          station_at driver.seats.items l.from from.0 from.1,
          station_at driver.seats.items l.to to.0 to.1,
          record {
            sender = nothing_sent;
            receiver = nothing_received;
            sends = new_sender_at image.version image.links driver.channels.items l.from (station from.0).sides sender.ends
                link part l at low refl;
            receives = new_receiver_at image.version image.links driver.channels.items l.to (station to.0).sides
                receiver.ends link part l at low refl;
            agree = (
              replicate (width + 1) 0,
              starts width (replicate (width + 1) 0) (length-replicate (width + 1) 0)
                  (get_or-replicate (width + 1) 0 0 0 (omega arith)),
            );
            box_is = get-replicate (16 * length image.links) (box_number link part) empty_box (omega (arith, inside, low));
          },
        )

    -- all ranks are loaded, and nothing happened yet
    pub under_way_at_start : IsUnderWay image plans order (stations driver) driver.hub 0
    unfolding start_station
    under_way_at_start = record {
      links_are = d.links_are;
      low = subst (λ es. stamp_after 0 es < 2 ^ 62) (sym d.no_calls) (omega arith);
      sites = λ r s at.
          let seat = from_map station driver.seats.items r s at in
          ap (λ (x : Station). x.rank.site) (sym seat.2)
          ∙ ap (λ (x : Rank). x.site) (fresh_at r seat.0 seat.1).rank_is;
      boxes = (loaded_cluster image).boxes;
      are_boxes = boxes_at_start;
      steps = [];
      run = λ i. record {
        ranks = (map-map (λ (s : Station). s.rank) station driver.seats.items ∙ d.ranks_are) i;
        journal = record { links = d.links_are i; entries = d.no_calls i; clock = stamp_after 0 (d.no_calls i) };
        boxes = (loaded_cluster image).boxes;
      };
      none_idles = tt;
      round = (omega arith, λ passed low high. absurd (omega (arith, high)));
      each = λ r plan s at_plan at.
          let seat = from_map station driver.seats.items r s at in
          let own = d.fresh r seat.0 seat.1 in
          let is : start_station r plan (station seat.0).sides ≡ s =
          (λ i. record {
            rank = (sym own.rank_is) i;
            events = (sym own.no_events) i;
            sides = (station seat.0).sides;
            asked = (sym own.asks_none) i;
            next = (sym own.next_is) i;
            budget = (sym (seat.0.budget_is ∙ ap (λ (p : Plan). p.budget) (d.plans_are r plan seat.0 at_plan seat.1))) i;
            stop = (sym own.runs) i;
          }) ∙ seat.2 in
          subst (IsSoFar [] driver.hub.entries r plan) is
          (subst (λ es. IsSoFar [] es r plan (start_station r plan (station seat.0).sides)) (sym d.no_calls)
          (so_far_at_start r plan (station seat.0).sides));
    }

  -- each rank stands in the order, so all are stopped
  pub stopped_at : AreSeated plans driver
      → ((place : ℕ) → place < length order → IsStoppedAt (stations driver) (slice_index order place))
      → (r : ℕ) (seat : Seat) → slice_get driver.seats.items r ≡ Some seat → (stop : Stop) × (seat.stop ≡ Some stop)
  stopped_at seated done r seat at =
      let there = slice_get_within driver.seats.items r seat at in
      let named = are.misses_none r (omega (arith, there, seated.one_each, are.planned.one_each)) in
      let is : r ≡ slice_index order named.0 = get_or_read order named.0 r named.1 (sym named.2) 0 in
      let stopped = subst (IsStoppedAt (stations driver)) (sym is) (done named.0 named.1) in
      let own = from_map station driver.seats.items r stopped.0 stopped.2 in (
        stopped.1,
        ap (λ (s : Seat). s.stop) (same_Some seat own.0 (sym at ∙ own.1)) ∙ ap (λ (s : Station). s.stop) own.2 ∙ stopped.3,
      )

-- what seats leave that are told to stop where they haven't
module _ (image : ImageParts) (plans cuts : List Plan) (order : List ℕ) (driver : Driver) (left : Record)
    (seated : AreSeated plans driver) (many : length plans ≡ image.ranks) (cuts_many : length cuts ≡ image.ranks)
    (is : IsLeftBy driver left) (slot : ℕ)
    (w : IsUnderWay image cuts order (map closed driver.seats.items) driver.hub slot) where
  box_shown : (link part : ℕ) → link < length image.links → part < 16
      → (settled : List Settled) × (b : Settled) × (box : Box)
      × (slice_get left.boxes.items link ≡ Some settled) × (slice_get settled part ≡ Some b)
      × (slice_get w.boxes (box_number link part) ≡ Some box)
      × Shows image.version b box
  box_shown link part below low =
      let l = at_below image.links link below in
      let at : slice_get driver.hub.links link ≡ Some l.0 = ap (λ ls. slice_get ls link) w.links_are ∙ l.1 in
      let old = w.are_boxes link part l.0 l.1 low in
      let h = old.4 in
      let from = from_map closed driver.seats.items l.0.from old.0 old.2 in
      let to = from_map closed driver.seats.items l.0.to old.1 old.3 in
      let from_done = done_at driver.seats.items is.all l.0.from from.0 is.done from.1 in
      let to_done = done_at driver.seats.items is.all l.0.to to.0 is.done to.1 in
      let sends : sender_of (station from.0).sides link part ≡ Some h.sender =
      ap (λ (x : Station). sender_of x.sides link part) from.2 ∙ h.sends in
      let receives : receiver_of (station to.0).sides link part ≡ Some h.receiver =
      ap (λ (x : Station). receiver_of x.sides link part) to.2 ∙ h.receives in
      let k = left_in driver.hub.links driver.channels.items (map ends_of is.all) left.boxes.items is.record_is.boxes_are
      seated.joined.one_each link part l.0 (ends_of from_done.0) (ends_of to_done.0) h.sender h.receiver at
      (to_map ends_of is.all l.0.from from_done.0 from_done.1) (to_map ends_of is.all l.0.to to_done.0 to_done.1)
      (ap (λ (x : RankOfTurns). sender_key (side_of link x.sends.items) part) from_done.2 ∙ sends)
      (ap (λ (x : RankOfTurns). receiver_key (side_of link x.recvs.items) part) to_done.2 ∙ receives) in
      let over = (seated.joined.each l.0.from (station from.0) (station_at driver.seats.items l.0.from from.0 from.1)).over in
      let side = some_sends (side_of link (station from.0).sides.sends) part h.sender sends in
      let width : k.channel.width ≡ box_words (station from.0).rank.site.version =
      (subst (λ o. HasSender (station from.0).rank.site.version o side.0) k.channel_there
      (over.sends link side.0 side.1)).0 in
      let version : (station from.0).rank.site.version ≡ image.version =
      ap (λ (x : Site). x.version)
      (w.sites l.0.from (closed from.0) (to_map closed driver.seats.items l.0.from from.0 from.1)) in (
        k.settled,
        k.left,
        box_of image.version h.sender h.receiver,
        k.there,
        k.place,
        h.box_is,
        shows image.version h.sender h.receiver k.left
            (subst (λ n. IsSettled n h.sender h.receiver k.left) (width ∙ ap box_words version) k.is),
      )

  ends : IsEndOf image left (cluster_of (map closed driver.seats.items) driver.hub w.boxes)
  ends = record {
    ranks_are = map-map (λ (s : Station). s.rank) closed driver.seats.items
        ∙ sym (map-map rank_of (λ (seat : Seat). seat.rank.state) driver.seats.items)
        ∙ ap (map rank_of) (sym (is.record_is.ranks_are ∙ states_are driver.seats.items is.all is.done));
    journal_is = λ i. record {
      links = w.links_are i;
      entries = (sym is.record_is.journal_is) i;
      clock = stamp_after 0 ((sym is.record_is.journal_is) i);
    };
    boxes_show = record {
      links = is.record_is.boxes_are.count ∙ ap (λ (ls : List Link). length ls) w.links_are;
      each = box_shown;
    };
  }

  pub one_run : IsOneRun image cuts order left
  one_run =
      let count : length is.all ≡ image.ranks =
      as_many driver.seats.items is.all is.done ∙ seated.one_each ∙ many in
      let own = is.record_is in
      record {
        steps = w.steps;
        final = cluster_of (map closed driver.seats.items) driver.hub w.boxes;
        run = w.run;
        end = ends;
        none_idles = w.none_idles;
        round = goes_round order (IsStoppedAt (map closed driver.seats.items)) 0 (map (λ (e : Step). e.rank) w.steps) slot w.round;
        plans_count = cuts_many;
        traces_count = ap (λ (xs : List TraceView). length xs) own.traces_are ∙ length-map is.all trace_of ∙ count;
        ranks_count = ap (λ (xs : List RankState). length xs) own.ranks_are ∙ length-map is.all state_of ∙ count;
        stops_count = ap (λ (xs : List Stop). length xs) own.stops_are ∙ length-map is.all stop_of ∙ count;
        each = λ r plan trace state stop at_plan at_trace at_state at_stop.
            let a = from_map trace_of is.all r trace (ap (λ xs. slice_get xs r) (sym own.traces_are) ∙ at_trace) in
            let b = from_map state_of is.all r state (ap (λ xs. slice_get xs r) (sym own.ranks_are) ∙ at_state) in
            let c = from_map stop_of is.all r stop (ap (λ xs. slice_get xs r) (sym own.stops_are) ∙ at_stop) in
            let seat = seat_at driver.seats.items is.all r a.0 is.done a.1 in
            let events_are : seat.0.rank.trace.events ≡ trace.events =
            ap (λ (x : RankOfTurns). x.trace.events) seat.2 ∙ ap (λ (t : TraceView). t.events) a.2 in
            let state_is : rank_of seat.0.rank.state ≡ rank_of state =
            ap (λ (x : RankOfTurns). rank_of x.state) seat.2
            ∙ ap (λ (x : Done). rank_of x.rank.state) (same_Some a.0 b.0 (sym a.1 ∙ b.1)) ∙ ap rank_of b.2 in
            let stop_is : (closed seat.0).stop ≡ Some stop =
            seat.3 ∙ ap (λ (x : Done). Some x.stop) (same_Some a.0 c.0 (sym a.1 ∙ c.1)) ∙ ap Some c.2 in
            let so = w.each r plan (closed seat.0) at_plan (to_map closed driver.seats.items r seat.0 seat.1) in
            subst (λ es. IsRankOf w.steps es r plan trace.events (rank_of state) stop) (sym own.journal_is)
            (subst (λ events. IsRankOf w.steps driver.hub.entries r plan events (rank_of state) stop) events_are
            (subst (λ rank. IsRankOf w.steps driver.hub.entries r plan seat.0.rank.trace.events rank stop) state_is
            (rank_of_run w.steps driver.hub.entries r plan (closed seat.0) stop so stop_is)));
      }

module _ (image : ImageParts) (plans : List Plan) (order : List ℕ) (are : ArePlans image plans order) (driver : Driver)
    (left : Record) (seated : AreSeated plans driver) (is : IsLeftBy driver left) (slot : ℕ)
    (w : IsUnderWay image plans order (stations driver) driver.hub slot) where
  -- each rank stopped by its plan
  pub whole_run : ((place : ℕ) → place < length order → IsStoppedAt (stations driver) (slice_index order place))
      → IsOneRun image plans order left
  whole_run done =
      let many = are.planned.one_each in
      let same = all_closed driver.seats.items (stopped_at image plans order are driver seated done) in
      one_run image plans plans order driver left seated many many is slot
      (subst (λ ss. IsUnderWay image plans order ss driver.hub slot) (sym same) w)

  -- or was told to
  pub ended_run : IsEndedRun image plans order left
  ended_run =
      let many = are.planned.one_each in
      let cuts = map closed_plan driver.seats.items in
      record {
        cuts = cuts;
        are_cuts = are_cuts image plans order driver seated slot w;
        run = one_run image plans cuts order driver left seated many
            (length-map driver.seats.items closed_plan ∙ seated.one_each ∙ many) is slot
            (closed_under_way image plans order driver seated slot w);
      }
