-- What ranks that went alone, a hub that has just their calls, and boxes that have what they made and took are together.
use Rattle.std.specs.Prelude.{ℕ, ◌≡◌, ◌<◌, ◌*◌, ◌/◌, ◌%◌, List, [], length, map, replicate, slice_get}
use Rattle.std.specs.Prelude.{Some, None, All}
use Rattle.std.specs.List.{AllByRecursion, filter_map}
use Rattle.std.proofs.Common.{refl, sym, ap, ◌∙◌, subst, arith, inl, inr}
use Rattle.std.proofs.lemmas.Bool.{cases_lt}
use Rattle.std.proofs.lemmas.List.{length-map}
use Rattle.std.proofs.lemmas.Option.{same_Some, slice_get_past}
use Rattle.rv_image_types.specs.declared.images.ImageParts.{ImageParts}
use Rattle.rv_image_types.specs.declared.images.Link.{Link}
use Rattle.rv_image_types.specs.Image.{IsLink}
use Rattle.part_box.specs.declared.settled.Settled.{Settled}
use Rattle.part_channel.specs.Channels.{ChannelView}
use Rattle.cl_journal.specs.Replaying.{Follows, HubHistory, Replays}
use Rattle.cl_journal.specs.declared.entries.Entry.{Entry}
use Rattle.cl_trace.specs.Traces.{TraceView}
use Rattle.cl_state.specs.Rank.{below, loaded}
use Rattle.cl_state.specs.Room.{rank_of}
use Rattle.cl_state.specs.declared.state.RankState.{RankState}
use Rattle.cl_deeds.specs.Deeds.{Deed, RankMoves}
use Rattle.cl_rank.specs.Views.{view_of}
use Rattle.cl_rank.specs.declared.stops.Stop.{Stop}
use Rattle.cl_machine.specs.Boxes.{Box, box_number, empty_box}
use Rattle.cl_machine.specs.Cluster.{Cluster as MachineCluster, loaded_cluster}
use Rattle.cl_machine.specs.Joined.{BoxJoined, BoxJoinedAt, Joined, OnItsSide}
use Rattle.cl_machine.specs.Journal.{journal_of}
use Rattle.cl_machine.specs.Order.{of_rank}
use Rattle.cl_machine.specs.Parts.{PartRunAt}
use Rattle.cl_machine.specs.Product.{entry_of}
use Rattle.cl_machine.specs.Keys.{Shows, ShowsAll}
use Rattle.cl_record.specs.BoxKeys.{box_of}
use Rattle.cl_record.specs.Plans.{HasPlans}
use Rattle.cl_record.specs.declared.plans.Plan.{Plan}
use Rattle.cl_record.specs.declared.records.Record.{Record}
use Rattle.cl_arrival_laws.proofs.Below.{starts}
use Rattle.cl_record.proofs.Elements.{at_below, from_map, to_map}
use Rattle.cl_record.proofs.Leaves.{shows}
use Rattle.cl_threads.specs.OnThreads.{AreDone}
use Rattle.cl_record.specs.Leaving.{IsRecordOf}
use Rattle.cl_threads.specs.Callers.{AreOf}
use Rattle.cl_threads.specs.Cuts.{AreBy, IsRunUntil}
use Rattle.cl_threads.specs.Loading.{IsCluster}
use Rattle.cl_threads.specs.Runs.{IsBoxOf, IsTracedRank, IsThreadRun}
use Rattle.cl_threads.specs.Ties.{AreTied}
use Rattle.cl_threads.specs.declared.loading.Cluster.{Cluster}
use Rattle.cl_threads.specs.declared.until.Until.{Until}
use Rattle.cl_record.specs.declared.done.Done.{Done}
use Rattle.cl_threads.proofs.BoxesJoined.{box_joined}
use Rattle.cl_threads.proofs.BoxesLeft.{BoxLeft, box_left}
use Rattle.cl_threads.proofs.CallsJoined.{calls_joined, none_entered, replays_enters}
use Rattle.cl_threads.proofs.Numbers.{Chosen, choose, none_replicated, replicated_at}
use Rattle.cl_threads.proofs.RanksJoined.{AllWent, all_went, are_by, cuts_of, has_cuts, on_its_side}

module _ (image : ImageParts) (channels : List ChannelView) (plans : List Plan) (all : List Done)
    (ran : AllWent image channels plans all) where
  done_at : (r : ℕ) → r < image.ranks → (done : Done) × (slice_get all r ≡ Some done)
  done_at r low = at_below all r (let e = ran.count in omega (arith, low, e))

  -- ---- each rank

  -- each rank's deeds are its own
  owns : (r : ℕ) → AllByRecursion (λ (d : Deed). d.rank ≡ r) (ran.deeds r)
  owns r = elim (cases_lt r image.ranks) [
    | inl low ↦ (let done = done_at r low in (ran.each r done.0 done.1).2.own)
    | inr up ↦ subst (AllByRecursion (λ (d : Deed). d.rank ≡ r)) (sym (ran.none r up)) tt
  ]

  -- and on its own side of its links
  sides : (r : ℕ) → AllByRecursion (λ (d : Deed). OnItsSide image.links r d.act) (ran.deeds r)
  sides r = elim (cases_lt r image.ranks) [
    | inl low ↦
        let done = done_at r low in
        let w = ran.each r done.0 done.1 in
        on_its_side image channels r w.0 (ran.deeds r) done.0 w.2
    | inr up ↦ subst (AllByRecursion (λ (d : Deed). OnItsSide image.links r d.act)) (sym (ran.none r up)) tt
  ]

  -- each rank's deeds lead it from its image to what its thread left
  ranks : (states : List RankState) → states ≡ map (λ (done : Done). done.rank.state) all → (r : ℕ)
      → PartRunAt RankMoves (slice_get (map (loaded image) (below image.ranks)) r) (ran.deeds r)
      (slice_get (map rank_of states) r)
  ranks states are r = elim (starts image image.ranks r) [
    | inl start ↦
        let done = done_at r start.0 in
        let w = (ran.each r done.0 done.1).2 in
        let end : slice_get (map rank_of states) r ≡ Some (view_of done.0.rank).rank =
        to_map rank_of states r done.0.rank.state
        (ap (λ xs. slice_get xs r) are ∙ to_map (λ (x : Done). x.rank.state) all r done.0 done.1) in
        subst (λ o. PartRunAt RankMoves (slice_get (map (loaded image) (below image.ranks)) r) (ran.deeds r) o) (sym end)
        (subst (λ o. PartRunAt RankMoves o (ran.deeds r) (Some (view_of done.0.rank).rank))
        (sym start.1) w.alone)
    | inr start ↦
        let up = start.0 in
        let end : slice_get (map rank_of states) r ≡ None =
        slice_get_past (map rank_of states) r
        (let a = length-map states rank_of in
        let b = ap (λ (xs : List RankState). length xs) are in
        let c = length-map all (λ (x : Done). x.rank.state) in
        let d = ran.count in omega (arith, up, a, b, c, d)) in
        subst (λ o. PartRunAt RankMoves (slice_get (map (loaded image) (below image.ranks)) r) (ran.deeds r) o) (sym end)
        (subst (λ o. PartRunAt RankMoves o (ran.deeds r) None) (sym start.1) (ran.none r up))
  ]

  -- each rank's entries are its hub deeds
  calls : (entries : List Entry) (traces : List TraceView) → traces ≡ map (λ (done : Done). done.rank.trace) all
      → AreTied entries traces → AreOf image.ranks entries → (r : ℕ)
      → of_rank (λ (e : Entry). e.rank) r entries ≡ filter_map entry_of (ran.deeds r)
  calls entries traces are tied of r = elim (cases_lt r image.ranks) [
    | inl low ↦
        let done = done_at r low in
        let w = (ran.each r done.0 done.1).2 in
        calls_joined entries r (ran.deeds r) done.0.rank.trace.events (loaded image r) (view_of done.0.rank).rank refl
        w.alone w.own w.left.traced
        (tied r done.0.rank.trace
        (ap (λ xs. slice_get xs r) are ∙ to_map (λ (x : Done). x.rank.trace) all r done.0 done.1))
    | inr up ↦ none_entered image.ranks entries r of up ∙ ap (filter_map entry_of) (sym (ran.none r up))
  ]

  -- ---- each box

  module _ (boxes : List (List Settled)) (left : (link part : ℕ) (l : Link) → slice_get image.links link ≡ Some l
      → part < 16 → BoxLeft image channels plans all ran boxes link part l) where
    -- a box of the cluster, by its number
    record IsBox (n : ℕ) (box : Box) : Type 0 where
      l : Link
      link_there : slice_get image.links (n / 16) ≡ Some l
      own : BoxLeft image channels plans all ran boxes (n / 16) (n % 16) l
      joined : BoxJoined image.links n ran.deeds box
      shown : Shows image.version own.left box

    box_at : (n : ℕ) → n < 16 * length image.links → (box : Box) × IsBox n box
    box_at n low =
        let l = at_below image.links (n / 16) (omega (arith, low)) in
        let b = left (n / 16) (n % 16) l.0 l.1 (omega arith) in
        let is = b.is in
        let number : box_number (n / 16) (n % 16) ≡ n = omega arith in (
          box_of image.version is.sender is.receiver,
          record {
            l = l.0;
            link_there = l.1;
            own = b;
            joined = subst (λ k. BoxJoined image.links k ran.deeds (box_of image.version is.sender is.receiver)) number
                (box_joined image.version is.sender is.receiver b.left is.settled image.links ran.deeds (n / 16) (n % 16)
                l.0 l.1 (omega arith) sides is.sent is.received);
            shown = shows image.version is.sender is.receiver b.left is.settled;
          },
        )

    all_boxes : Chosen IsBox (16 * length image.links)
    all_boxes = choose IsBox (16 * length image.links) box_at

    -- each box joins its two ranks' deeds
    boxes_join : (n : ℕ)
        → BoxJoinedAt image.links n ran.deeds (slice_get (replicate (16 * length image.links) empty_box) n)
        (slice_get all_boxes.0 n)
    boxes_join n = elim (cases_lt n (16 * length image.links)) [
      | inl low ↦
          let box = all_boxes.2 n low in
          subst (λ o. BoxJoinedAt image.links n ran.deeds o (slice_get all_boxes.0 n))
          (sym (replicated_at (16 * length image.links) n empty_box low))
          (subst (λ o. BoxJoinedAt image.links n ran.deeds (Some empty_box) o) (sym box.1) (refl, box.2.joined))
      | inr up ↦
          let none = slice_get_past all_boxes.0 n (let e = all_boxes.1 in omega (arith, up, e)) in
          subst (λ o. BoxJoinedAt image.links n ran.deeds o (slice_get all_boxes.0 n))
          (sym (none_replicated (16 * length image.links) n empty_box up))
          (subst (λ o. BoxJoinedAt image.links n ran.deeds None o) (sym none)
          (slice_get_past image.links (n / 16) (omega (arith, up))))
    ]

    -- and what is left shows it
    boxes_show : length boxes ≡ length image.links → ShowsAll image boxes all_boxes.0
    boxes_show count = record {
      links = count;
      each = λ link part low few.
          let box = all_boxes.2 (box_number link part) (omega (arith, low, few)) in
          let here = box.2.own in
          let link_is : box_number link part / 16 ≡ link = omega (arith, few) in
          let part_is : box_number link part % 16 ≡ part = omega (arith, few) in (
            here.settled,
            here.left,
            box.0,
            ap (slice_get boxes) (sym link_is) ∙ here.there,
            ap (slice_get here.settled) (sym part_is) ∙ here.place,
            box.1,
            box.2.shown,
          );
    }

  -- ---- the whole

  module _ (left : Record) (entries : List Entry) (record_is : IsRecordOf image.links channels entries all left)
      (one_each : length channels ≡ length image.links) (links : All (IsLink image.ranks) image.links) where
    left_at : (link part : ℕ) (l : Link) → slice_get image.links link ≡ Some l → part < 16
        → BoxLeft image channels plans all ran left.boxes.items link part l
    left_at = box_left image channels plans all ran left.boxes.items record_is.boxes_are one_each links

    final : MachineCluster
    final = record {
      ranks = map rank_of left.ranks.items;
      journal = journal_of image.links left.journal.items;
      boxes = (all_boxes left.boxes.items left_at).0;
    }

    joined : Follows image.links [] 0 entries → AreTied left.journal.items left.traces.items
        → AreOf image.ranks left.journal.items
        → Joined image.links (loaded_cluster image) final ran.deeds left.journal.items
    unfolding final
    joined follows tied of = record {
      ranks = ranks left.ranks.items record_is.ranks_are;
      sides = sides;
      journal = replays_enters image.links left.journal.items
          (subst (Follows image.links [] 0) (sym record_is.journal_is) follows);
      calls = calls left.journal.items left.traces.items record_is.traces_are tied of;
      boxes = boxes_join left.boxes.items left_at;
    }

    -- each rank by its plan
    rank_left : (r : ℕ) (plan : Plan) (trace : TraceView) (state : RankState) (stop : Stop)
        → slice_get plans r ≡ Some plan → slice_get left.traces.items r ≡ Some trace
        → slice_get left.ranks.items r ≡ Some state → slice_get left.stops.items r ≡ Some stop
        → IsTracedRank plan (ran.deeds r) trace.events (rank_of state) stop
    rank_left r plan trace state stop at_plan at_trace at_state at_stop =
        let done = from_map (λ (x : Done). x.rank.trace) all r trace
        (ap (λ xs. slice_get xs r) (sym record_is.traces_are) ∙ at_trace) in
        let w = ran.each r done.0 done.1 in
        let plan_is = same_Some w.0 plan (sym w.1 ∙ at_plan) in
        let events_are = ap (λ (x : TraceView). x.events) done.2 in
        let state_is : done.0.rank.state ≡ state =
        same_Some done.0.rank.state state
        (sym (to_map (λ (x : Done). x.rank.state) all r done.0 done.1) ∙ ap (λ xs. slice_get xs r) (sym record_is.ranks_are)
        ∙ at_state) in
        let stop_is : done.0.stop ≡ stop =
        same_Some done.0.stop stop
        (sym (to_map (λ (x : Done). x.stop) all r done.0 done.1) ∙ ap (λ xs. slice_get xs r) (sym record_is.stops_are)
        ∙ at_stop) in
        subst (λ p. IsTracedRank p (ran.deeds r) trace.events (rank_of state) stop) plan_is
        (subst (λ es. IsTracedRank w.0 (ran.deeds r) es (rank_of state) stop) events_are
        (subst (λ s. IsTracedRank w.0 (ran.deeds r) done.0.rank.trace.events (rank_of s) stop) state_is
        (subst (λ s. IsTracedRank w.0 (ran.deeds r) done.0.rank.trace.events (rank_of done.0.rank.state) s) stop_is
        w.2.left)))

    box_by_keys : (link part : ℕ) (l : Link) (settled : List Settled) (b : Settled) → part < 16
        → slice_get image.links link ≡ Some l → slice_get left.boxes.items link ≡ Some settled
        → slice_get settled part ≡ Some b → IsBoxOf image.version ran.deeds link part l b
    box_by_keys link part l settled b low at at_settled at_b =
        let own = left_at link part l at low in
        let settled_is = same_Some own.settled settled (sym own.there ∙ at_settled) in
        let left_is =
        same_Some own.left b (sym own.place ∙ ap (λ xs. slice_get xs part) settled_is ∙ at_b) in
        subst (IsBoxOf image.version ran.deeds link part l) left_is own.is

    together : HasPlans image plans → Follows image.links [] 0 entries → AreTied left.journal.items left.traces.items
        → AreOf image.ranks left.journal.items → IsThreadRun image plans left
    unfolding final
    together planned follows tied of = record {
      deeds = ran.deeds;
      own = owns;
      final = final;
      joined = joined follows tied of;
      end = record {
        ranks_are = refl;
        journal_is = refl;
        boxes_show = boxes_show left.boxes.items left_at record_is.boxes_are.count;
      };
      planned = planned;
      traces_count = ap (λ (xs : List TraceView). length xs) record_is.traces_are
          ∙ length-map all (λ (x : Done). x.rank.trace) ∙ ran.count;
      ranks_count = ap (λ (xs : List RankState). length xs) record_is.ranks_are
          ∙ length-map all (λ (x : Done). x.rank.state) ∙ ran.count;
      stops_count = ap (λ (xs : List Stop). length xs) record_is.stops_are
          ∙ length-map all (λ (x : Done). x.stop) ∙ ran.count;
      each = rank_left;
      boxes = box_by_keys;
    }

pub thread_run : (until : Until) (image : ImageParts) (plans : List Plan) (cluster : Cluster) (all : List Done) (hub : HubHistory)
    (left : Record) → HasPlans image plans → IsCluster image plans cluster
    → AreDone until cluster.channels.items cluster.seats.items all
    → hub.links ≡ image.links → Replays hub
    → IsRecordOf image.links cluster.channels.items hub.entries all left
    → AreTied left.journal.items left.traces.items → AreOf image.ranks left.journal.items
    → IsRunUntil until image plans left
thread_run until image plans cluster all hub left planned is done links replays record_is tied of =
    let channels = cluster.channels.items in
    let seats = cluster.seats.items in
    let cuts = cuts_of until channels seats all done in
    record {
      cuts = cuts;
      are_by = subst (AreBy until plans cuts) (sym record_is.stops_are)
          (are_by until channels image plans seats all done is.count planned is.plans_are is.loaded);
      run = together image channels cuts all
          (all_went until channels image plans seats all done is.count planned is.plans_are is.loaded)
          left hub.entries record_is is.one_each is.joined
          (has_cuts until channels image plans seats all done is.count planned is.plans_are is.loaded)
          (subst (λ ls. Follows ls [] 0 hub.entries) links replays) tied of;
    }
