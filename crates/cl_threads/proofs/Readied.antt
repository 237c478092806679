-- Seats that are loaded are ready.
use Rattle.std.specs.Prelude.{ℕ, suc, ◌≡◌, ◌+◌, List, [], ◌∷◌, slice_get, Some}
use Rattle.std.proofs.Common.{refl, sym, ap, subst, arith}
use Rattle.rv_image_types.specs.declared.images.ImageParts.{ImageParts}
use Rattle.part_channel.specs.Channels.{ChannelView}
use Rattle.cl_state.specs.Rank.{Rank}
use Rattle.cl_rank.specs.RankSides.{AreChannelsOf}
use Rattle.cl_record.proofs.Wires.{over_channels}
use Rattle.cl_record.specs.Seats.{AreFresh, IsFresh, station}
use Rattle.cl_record.specs.declared.seats.Seat.{Seat}
use Rattle.cl_threads.specs.OnThreads.{AreReady, IsReady}

is_ready : (image : ImageParts) (channels : List ChannelView) (r : ℕ) (seat : Seat) → IsFresh image channels r seat
    → IsReady channels seat
is_ready image channels r seat fresh = record {
  no_events = fresh.no_events;
  first_place = fresh.next_is;
  runs = fresh.runs;
  over = subst (λ v. AreChannelsOf v channels (station seat).sides) (ap (λ (x : Rank). x.site.version) (sym fresh.rank_is))
      (over_channels image.version image.links channels r (station seat).sides fresh.ends);
}

-- those from some number on
ready_from : (image : ImageParts) (channels : List ChannelView) (first : ℕ) (seats : List Seat)
    → ((r : ℕ) (seat : Seat) → slice_get seats r ≡ Some seat → IsFresh image channels (first + r) seat)
    → AreReady channels seats
ready_from image channels first [] fresh = tt
ready_from image channels first (seat ∷ seats) fresh = (
  is_ready image channels (first + 0) seat (fresh 0 seat refl),
  ready_from image channels (suc first) seats
      (λ r x at. subst (λ n. IsFresh image channels n x) (omega arith) (fresh (suc r) x at)),
)

pub all_ready : (image : ImageParts) (channels : List ChannelView) (seats : List Seat) → AreFresh image channels seats
    → AreReady channels seats
all_ready image channels seats fresh =
    ready_from image channels 0 seats
    (λ r seat at. subst (λ n. IsFresh image channels n seat) (omega arith) (fresh r seat at))
