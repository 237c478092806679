-- Seats by their numbers, and their stops.
use Rattle.std.specs.Prelude.{ℕ, ◌≡◌, ◌<◌, true, false, List, length, map, slice_get, Option, All, vec_len}
use Rattle.std.specs.Prelude.{None, Some, option_map, is_some}
use Rattle.std.proofs.Common.{refl, ap, ◌∙◌}
use Rattle.std.proofs.lemmas.Option.{slice_get-map}
use Rattle.std.specs.Coded.{le_prop}
use Rattle.std.proofs.Math.Nat.{ℕ_set}
use mathlib.Core.HLevel.{is_prop→PathP}
use Rattle.cl_rank.specs.declared.stops.Stop.{Stop}
use Rattle.cl_record.specs.Seats.{station}
use Rattle.cl_record.specs.declared.seats.Seat.{Seat}

pub some_stop : (o : Option Stop) → is_some o ≡ true → (stop : Stop) × (o ≡ Some stop)
some_stop (Some stop) h = (stop, refl)
some_stop None h = absurd (cc)

pub no_stop : (o : Option Stop) → is_some o ≡ false → o ≡ None
no_stop (Some stop) h = absurd (cc)
no_stop None h = refl

-- what stands at a number of the stations is the station of the seat there
pub station_at : (seats : List Seat) (r : ℕ) (seat : Seat) → slice_get seats r ≡ Some seat
    → slice_get (map station seats) r ≡ Some (station seat)
station_at seats r seat h = slice_get-map station seats r ∙ ap (option_map station) h

-- seats with the same fields are the same: of each fact that a seat keeps there is one proof
pub same_seat : (x y : Seat) → x.rank ≡ y.rank → x.plan ≡ y.plan → x.next ≡ y.next → x.stop ≡ y.stop → x ≡ y
same_seat x y rank plan next stop = λ i. record {
  rank = rank i;
  plan = plan i;
  next = next i;
  stop = stop i;
  next_there = is_prop→PathP (λ k. next k < length (plan k).now.order.items) (λ k. hlevel le_prop) x.next_there y.next_there i;
  harts_there = is_prop→PathP
      (λ k. All (λ hart. hart < vec_len (rank k).state.harts) (plan k).now.order.items) (λ k. hlevel le_prop)
      x.harts_there y.harts_there i;
  budget_is = is_prop→PathP (λ k. (rank k).budget ≡ (plan k).now.budget) (λ k. ℕ_set _ _) x.budget_is y.budget_is i;
}
