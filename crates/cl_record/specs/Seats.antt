-- A seat: what a driver keeps of one rank, and what a turn by a desk makes of it.
use Rattle.std.specs.Prelude.{ℕ, ◌≡◌, ◌<◌, ◌+◌, ◌%◌, ◌⊎◌, List, [], ◌∷◌, ◌++◌, length, slice_get, slice_index}
use Rattle.std.specs.Prelude.{Option, None, Some}
use Rattle.rv_image_types.specs.declared.images.ImageParts.{ImageParts}
use Rattle.part_channel.specs.Channels.{ChannelView}
use Rattle.cl_trace.specs.declared.events.Event.{Event}
use Rattle.mp_types.specs.declared.requests.Request.{Request}
use Rattle.cl_state.specs.declared.asking.Ask.{Ask}
use Rattle.cl_state.specs.Asked.{asked}
use Rattle.cl_state.specs.Rank.{Rank, loaded}
use Rattle.cl_state.specs.Room.{rank_of}
use Rattle.cl_deeds.specs.Deeds.{Deed, RankMoves, event_of}
use Rattle.cl_rank.specs.RankSides.{KeysMove, Sides}
use Rattle.cl_rank.specs.Sides.{box_id_of}
use Rattle.cl_deeds.specs.Memory.{TurnTakesMemory}
use Rattle.cl_rank.specs.Plains.{IsPlainTurn}
use Rattle.cl_rank.specs.Turning.{DeskRule, RankView, StopHolds, Tells}
use Rattle.cl_deeds.specs.Turns.{AllStopped}
use Rattle.cl_rank.specs.Views.{view_of}
use Rattle.cl_rank.specs.declared.stops.Stop.{Stop}
use Rattle.cl_record.specs.Wiring.{AreNewEnds}
use Rattle.cl_record.specs.declared.plans.Plan.{Plan}
use Rattle.cl_record.specs.declared.seats.Seat.{Seat}

-- what contracts see of a seat: its rank's state, its events, its sides, the box that its last turn asked, the place of
-- its next hart in its plan, its budget, and its stop
pub record Station : Type 0 where
  pub rank : Rank
  pub events : List Event
  pub sides : Sides
  pub asked : Option (ℕ × ℕ)
  pub next : ℕ
  pub budget : ℕ
  pub stop : Option Stop

abbrev pub station : Seat → Station
station seat = record {
  rank = (view_of seat.rank).rank;
  events = (view_of seat.rank).events;
  sides = (view_of seat.rank).sides;
  asked = (view_of seat.rank).asked_box;
  next = seat.next;
  budget = seat.rank.budget;
  stop = seat.stop;
}

-- a running rank took a turn, of the hart that its plan names; between the two the desk went by its rule
pub record TakesTurn {D : Type 0} (gives : DeskRule D) (plan : Plan) (old : Station) (before : D) (new : Station) (after : D)
    : Type 0 where
  pub deed : Deed
  pub rank_is : deed.rank ≡ old.rank.site.number
  pub hart_is : deed.hart ≡ slice_index plan.order.items old.next
  pub moves : RankMoves old.rank deed new.rank
  pub tells : Tells gives before after deed
  pub keys : KeysMove old.rank.site.version deed.stamp deed.act old.sides new.sides
  pub asked_is : new.asked ≡ box_id_of deed.act
  pub runs : ¬ (AllStopped old.rank)
  pub turns_left : length old.events < old.budget
  pub traced : new.events ≡ old.events ++ event_of deed ∷ []
  pub next_is : new.next ≡ (old.next + 1) % length plan.order.items
  pub budget_stays : new.budget ≡ old.budget
  pub goes_on : new.stop ≡ None

abbrev pub viewed : Station → RankView
viewed s = record { rank = s.rank; events = s.events; sides = s.sides; asked_box = s.asked }

-- a running rank took a plain turn, of the hart that its plan names: a turn over any desk, which is told nothing
pub record TakesPlainTurn (plan : Plan) (old new : Station) : Type 0 where
  pub turn : IsPlainTurn (slice_index plan.order.items old.next) (viewed old) (viewed new)
  pub turns_left : length old.events < old.budget
  pub next_is : new.next ≡ (old.next + 1) % length plan.order.items
  pub budget_stays : new.budget ≡ old.budget
  pub goes_on : new.stop ≡ None

-- a running rank takes no turn from now on, for a cause that held before a turn of the hart that its plan names, where
-- its trace had room for so many events more
pub record Stops {D : Type 0} (gives : DeskRule D) (plan : Plan) (old : Station) (before : D) (new : Station) (after : D)
    : Type 0 where
  pub hart : ℕ
  pub hart_is : hart ≡ slice_index plan.order.items old.next
  pub stop : Stop
  pub room : ℕ
  pub holds : StopHolds gives hart old.rank room (length old.events) old.budget before after stop
  pub rank_stays : new.rank ≡ old.rank
  pub events_stay : new.events ≡ old.events
  pub sides_stay : new.sides ≡ old.sides
  pub asked_stays : new.asked ≡ old.asked
  pub next_stays : new.next ≡ old.next
  pub budget_stays : new.budget ≡ old.budget
  pub stops : new.stop ≡ Some stop

-- the turn of the hart that its plan names takes memory, where its trace has room for so many events more, or it calls
-- the hub
abbrev pub MayRunOut : Plan → Station → ℕ → Type 0
MayRunOut plan s room =
    let hart = slice_index plan.order.items s.next in
    TurnTakesMemory s.rank room hart ⊎ ((request : Request) × (asked s.rank hart ≡ Ask.Hub request))

-- a running rank takes a turn or stops
abbrev pub GoesOn : {D : Type 0} → DeskRule D → Plan → Station → D → Station → D → Type 0
GoesOn gives plan old before new after = TakesTurn gives plan old before new after ⊎ Stops gives plan old before new after

-- rank number r as it is loaded, with its ends of the links, over these channels
pub record IsFresh (image : ImageParts) (channels : List ChannelView) (r : ℕ) (seat : Seat) : Type 0 where
  pub rank_is : rank_of seat.rank.state ≡ loaded image r
  pub no_events : seat.rank.trace.events ≡ []
  pub ends : AreNewEnds image.version image.links channels r (station seat).sides
  pub asks_none : (station seat).asked ≡ None
  pub next_is : seat.next ≡ 0
  pub runs : seat.stop ≡ None

-- each rank as it is loaded
abbrev pub AreFresh : ImageParts → List ChannelView → List Seat → Type 0
AreFresh image channels seats = (r : ℕ) (seat : Seat) → slice_get seats r ≡ Some seat → IsFresh image channels r seat

-- each seat is at the plan of its number
abbrev pub AreAt : List Plan → List Seat → Type 0
AreAt plans seats =
    (r : ℕ) (plan : Plan) (seat : Seat) → slice_get plans r ≡ Some plan → slice_get seats r ≡ Some seat
    → seat.plan.now ≡ plan
