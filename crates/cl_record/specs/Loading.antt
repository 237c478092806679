-- Seats as they are loaded, one behind another.
use Rattle.std.specs.Prelude.{ℕ, ◌≡◌, List, [], ◌∷◌, ◌++◌, length, map, slice_get, Some}
use Rattle.rv_image_types.specs.declared.images.ImageParts.{ImageParts}
use Rattle.part_channel.specs.Channels.{ChannelView}
use Rattle.cl_state.specs.Rank.{below, loaded}
use Rattle.cl_state.specs.Room.{rank_of}
use Rattle.cl_record.specs.Seats.{AreAt, AreFresh, IsFresh}
use Rattle.cl_record.specs.Wiring.{AreAllNew, AreNewEnds, sides_in}
use Rattle.cl_record.specs.declared.plans.Plan.{Plan}
use Rattle.cl_record.specs.declared.seats.Seat.{Seat}
use Rattle.cl_record.specs.declared.wiring.Ends.{Ends}

-- rank number n stands behind the seats that there were, as it is loaded, at its plan, with its own ends of the links
pub record HasNext (image : ImageParts) (plans : List Plan) (own : Ends) (n : ℕ) (old new : List Seat) : Type 0 where
  pub seat : Seat
  pub added : new ≡ old ++ seat ∷ []
  pub plan_is : (plan : Plan) → slice_get plans n ≡ Some plan → seat.plan.now ≡ plan
  pub fresh : (channels : List ChannelView) → AreNewEnds image.version image.links channels n (sides_in own)
      → IsFresh image channels n seat

-- the first n ranks, by their numbers, as they are loaded, at their plans, with these ends of the links
pub record AreLoaded (image : ImageParts) (plans : List Plan) (ends : List Ends) (n : ℕ) (seats : List Seat) : Type 0 where
  pub count : length seats ≡ n
  pub plans_are : AreAt plans seats
  pub ranks_are : map (λ (seat : Seat). rank_of seat.rank.state) seats ≡ map (loaded image) (below n)
  pub fresh : (channels : List ChannelView) → AreAllNew image channels ends → AreFresh image channels seats
