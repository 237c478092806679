-- What the driver leaves of its seats and of the links.
use Rattle.std.specs.Prelude.{ℕ, ◌≡◌, List, [], ◌∷◌, ◌++◌, length, map, slice_get, Option, Some}
use Rattle.std.proofs.Common.{refl, sym, ap, ◌∙◌, subst, arith}
use Rattle.std.proofs.lemmas.List.{length-map, map-append}
use Rattle.std.proofs.lemmas.Option.{slice_get_within}
use Rattle.std.proofs.lemmas.Simd.{map-map}
use Rattle.cl_rank.specs.RankSides.{HasReceiver, HasSender, side_of}
use Rattle.cl_rank.specs.declared.ranks.Rank.{Rank as RankOfTurns}
use Rattle.cl_rank.specs.declared.stops.Stop.{Stop}
use Rattle.cl_run.specs.declared.driver.Driver.{Driver}
use Rattle.cl_record.specs.declared.seats.Seat.{Seat}
use Rattle.cl_record.specs.Seats.{station}
use Rattle.cl_run.specs.Driver.{AreDone, AreJoined, end_of, ended, last_stop}
use Rattle.cl_record.specs.Leaving.{ends_of, state_of}
use Rattle.cl_record.specs.Settling.{MaySettle}
use Rattle.cl_record.specs.declared.done.Done.{Done}
use Rattle.cl_record.proofs.BoxesLeft.{some_recvs, some_sends}
use Rattle.cl_record.proofs.Elements.{at_below, from_map, link_at, to_map}
use Rattle.cl_run.proofs.Seats.{station_at}

-- as many are done as there are seats
pub as_many : (seats : List Seat) (all : List Done) → AreDone seats all → length all ≡ length seats
as_many seats all are =
    sym (length-map all ended) ∙ sym (ap (λ (xs : List (RankOfTurns × Option Stop)). length xs) are)
    ∙ length-map seats end_of

-- one seat more
pub done_more : (seats : List Seat) (all : List Done) (seat : Seat) (done : Done) → AreDone seats all
    → seat.rank ≡ done.rank → last_stop (station seat).rank seat.stop ≡ done.stop
    → AreDone (seats ++ seat ∷ []) (all ++ done ∷ [])
done_more seats all seat done are rank stop =
    map-append end_of seats (seat ∷ [])
    ∙ (λ i. are i ++ (rank i, Some (stop i)) ∷ [])
    ∙ sym (map-append ended all (done ∷ []))

-- the states that are left are those of the seats
pub states_are : (seats : List Seat) (all : List Done) → AreDone seats all
    → map state_of all ≡ map (λ (seat : Seat). seat.rank.state) seats
states_are seats all are =
    sym (map-map (λ (x : RankOfTurns × Option Stop). x.0.state) ended all)
    ∙ ap (map (λ (x : RankOfTurns × Option Stop). x.0.state)) (sym are)
    ∙ map-map (λ (x : RankOfTurns × Option Stop). x.0.state) end_of seats

-- the seat at a number, and what it left
pub done_at : (seats : List Seat) (all : List Done) (r : ℕ) (seat : Seat) → AreDone seats all
    → slice_get seats r ≡ Some seat
    → (done : Done) × (slice_get all r ≡ Some done) × (done.rank ≡ seat.rank)
done_at seats all r seat are at =
    let done = from_map ended all r (end_of seat) (ap (λ xs. slice_get xs r) (sym are) ∙ to_map end_of seats r seat at) in (
      done.0,
      done.1,
      ap (λ (x : RankOfTurns × Option Stop). x.0) done.2,
    )

pub seat_at : (seats : List Seat) (all : List Done) (r : ℕ) (done : Done) → AreDone seats all
    → slice_get all r ≡ Some done
    → (seat : Seat) × (slice_get seats r ≡ Some seat) × (seat.rank ≡ done.rank)
    × (Some (last_stop (station seat).rank seat.stop) ≡ Some done.stop)
seat_at seats all r done are at =
    let seat = from_map end_of seats r (ended done) (ap (λ xs. slice_get xs r) are ∙ to_map ended all r done at) in (
      seat.0,
      seat.1,
      ap (λ (x : RankOfTurns × Option Stop). x.0) seat.2,
      ap (λ (x : RankOfTurns × Option Stop). x.1) seat.2,
    )

-- the sides of a link's channel, at the two seats of the link
pub may_settle : (driver : Driver) → AreJoined driver → (all : List Done) → AreDone driver.seats.items all
    → MaySettle driver.hub.links driver.channels.items (map ends_of all)
may_settle driver joined all are = record {
  few = joined.few;
  one_each = joined.one_each;
  sides = λ link channel at.
      let l = at_below driver.hub.links link
      (omega (arith, slice_get_within driver.channels.items link channel at, joined.one_each)) in
      let own = link_at (length driver.seats.items) driver.hub.links link l.0 joined.links l.1 in
      let from = at_below driver.seats.items l.0.from own.from_there in
      let to = at_below driver.seats.items l.0.to own.to_there in
      let sender = joined.each l.0.from (station from.0) (station_at driver.seats.items l.0.from from.0 from.1) in
      let receiver = joined.each l.0.to (station to.0) (station_at driver.seats.items l.0.to to.0 to.1) in
      let key = sender.keys.sends link 0 l.0 l.1 (omega arith) refl in
      let key' = receiver.keys.receives link 0 l.0 l.1 (omega arith) refl in
      let s = some_sends (side_of link (station from.0).sides.sends) 0 key.0 key.1 in
      let r = some_recvs (side_of link (station to.0).sides.recvs) 0 key'.0 key'.1 in
      let from_done = done_at driver.seats.items all l.0.from from.0 are from.1 in
      let to_done = done_at driver.seats.items all l.0.to to.0 are to.1 in
      record {
        l = l.0;
        link_there = l.1;
        from = ends_of from_done.0;
        to = ends_of to_done.0;
        from_there = to_map ends_of all l.0.from from_done.0 from_done.1;
        to_there = to_map ends_of all l.0.to to_done.0 to_done.1;
        sends = s.0;
        receives = r.0;
        sends_are = ap (λ (x : RankOfTurns). side_of link x.sends.items) from_done.2 ∙ s.1;
        receives_are = ap (λ (x : RankOfTurns). side_of link x.recvs.items) to_done.2 ∙ r.1;
        sends_own = (subst (λ o. HasSender (station from.0).rank.site.version o s.0) at (sender.over.sends link s.0 s.1)).1;
        receives_own =
            (subst (λ o. HasReceiver (station to.0).rank.site.version o r.0) at (receiver.over.recvs link r.0 r.1)).1;
      };
}
