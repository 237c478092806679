-- The driver of a run on one thread: what it keeps of each rank, and what one slot of the order does to that.
use Rattle.std.specs.Prelude.{ℕ, ◌≡◌, ◌<◌, ◌≤◌, ◌+◌, ◌-◌, ⊤, List, [], length, map, sum_by, All}
use Rattle.std.specs.Prelude.{slice_get, slice_set, Option, None, Some, Bool, true, false, is_some}
use Rattle.std.specs.Prelude.{if◌then◌else◌}
use Rattle.part_box.specs.declared.view.Receiving.{Receiving}
use Rattle.part_box.specs.declared.view.Sending.{Sending}
use Rattle.part_channel.specs.Channels.{ChannelView}
use Rattle.cl_rank.specs.RankSides.{AreChannelsOf, receiver_of, sender_of}
use Rattle.cl_rank.specs.Turning.{Answered}
use Rattle.cl_rank.specs.declared.ranks.Rank.{Rank as RankOfTurns}
use Rattle.cl_deeds.specs.Turns.{all_stopped}
use Rattle.cl_rank.specs.declared.stops.Stop.{Stop}
use Rattle.cl_state.specs.Rank.{Rank, below, loaded}
use Rattle.rv_image_types.specs.declared.images.ImageParts.{ImageParts}
use Rattle.rv_image_types.specs.declared.images.Link.{Link}
use Rattle.rv_image_types.specs.Image.{IsLink}
use Rattle.rv_image_types.specs.Limits.{most_links}
use Rattle.cl_state.specs.Room.{rank_of}
use Rattle.cl_record.specs.BoxKeys.{AgreeOn, HasKeysOf}
use Rattle.cl_record.specs.Leaving.{HaveRoom, IsRecordOf}
use Rattle.cl_record.specs.Seats.{AreAt, AreFresh, GoesOn, Station, station}
use Rattle.cl_record.specs.declared.done.Done.{Done}
use Rattle.cl_record.specs.declared.lists.Lists.{Lists}
use Rattle.cl_record.specs.declared.plans.Plan.{Plan}
use Rattle.cl_record.specs.declared.records.Record.{Record}
use Rattle.cl_record.specs.declared.seats.Seat.{Seat}
use Rattle.cl_run.specs.declared.driver.Driver.{Driver}

abbrev pub stations : Driver → List Station
stations driver = map station driver.seats.items

-- rank number r has the keys of its links, over these channels; what its last turn asked is a box of a link
pub record IsJoined (links : List Link) (channels : List ChannelView) (r : ℕ) (s : Station) : Type 0 where
  pub number_is : s.rank.site.number ≡ r
  pub links_are : s.rank.site.links ≡ links
  pub keys : HasKeysOf links r s.sides
  pub over : AreChannelsOf s.rank.site.version channels s.sides
  pub asked : (place : ℕ × ℕ) → s.asked ≡ Some place → (place.0 < length links) × (place.1 < 16)

-- each link joins two seats, and has its channel
pub record AreJoined (driver : Driver) : Type 0 where
  pub few : length driver.hub.links ≤ most_links
  pub one_each : length driver.channels.items ≡ length driver.hub.links
  pub links : All (IsLink (length driver.seats.items)) driver.hub.links
  pub each : (r : ℕ) (s : Station) → slice_get (stations driver) r ≡ Some s
      → IsJoined driver.hub.links driver.channels.items r s

-- one seat for each plan
pub record AreSeated (plans : List Plan) (driver : Driver) : Type 0 where
  pub one_each : length driver.seats.items ≡ length plans
  pub each : AreAt plans driver.seats.items
  pub joined : AreJoined driver

-- the two keys of a box of a link agree
abbrev pub KeysAgree : List Station → Link → ℕ → ℕ → Type 0
KeysAgree ss l link part =
    (from to : Station) (s : Sending) (r : Receiving)
    → slice_get ss l.from ≡ Some from → slice_get ss l.to ≡ Some to
    → sender_of from.sides link part ≡ Some s → receiver_of to.sides link part ≡ Some r
    → AgreeOn from.rank.site.version s r

-- those of a box that was asked
abbrev pub Agree : List Link → List Station → Option (ℕ × ℕ) → Type 0
Agree links ss None = ⊤
Agree links ss (Some place) = (l : Link) → slice_get links place.0 ≡ Some l → KeysAgree ss l place.0 place.1

-- the two seats of a link have the keys of a box of it, over these channels
abbrev pub HaveKeys : List Station → List ChannelView → Link → ℕ → ℕ → Type 0
HaveKeys ss channels l link part =
    (from : Station) × (to : Station) × (slice_get ss l.from ≡ Some from) × (slice_get ss l.to ≡ Some to)
    × AreChannelsOf from.rank.site.version channels from.sides
    × AreChannelsOf to.rank.site.version channels to.sides
    × ((s : Sending) × (sender_of from.sides link part ≡ Some s))
    × ((r : Receiving) × (receiver_of to.sides link part ≡ Some r))

-- the rank of this number is there, and is stopped
abbrev pub IsStoppedAt : List Station → ℕ → Type 0
IsStoppedAt all r = (s : Station) × (stop : Stop) × (slice_get all r ≡ Some s) × (s.stop ≡ Some stop)

-- rank number r goes on, and no other; the keys of the box that it asked agree
pub record OneGoes (r : ℕ) (old new : Driver) : Type 0 where
  pub seat : Seat
  pub later : Seat
  pub there : slice_get old.seats.items r ≡ Some seat
  pub runs : seat.stop ≡ None
  pub goes : GoesOn Answered seat.plan.now (station seat) old.hub (station later) new.hub
  pub plan_stays : later.plan.now ≡ seat.plan.now
  pub channels : AreChannelsOf (station later).rank.site.version old.channels.items (station later).sides
  pub seats_are : new.seats.items ≡ slice_set old.seats.items r later
  pub channels_stay : new.channels.items ≡ old.channels.items
  pub agree : Agree old.hub.links (stations new) (station later).asked

-- what one slot does to rank number r: nothing where it is stopped
abbrev pub SlotGoes : ℕ → Driver → Driver → Bool → Type 0
SlotGoes r old new false = (new ≡ old) × IsStoppedAt (stations old) r
SlotGoes r old new true = OneGoes r old new

-- the turns that a rank has left, and one for its stop
abbrev pub left_of : Station → ℕ
left_of s = (s.budget - length s.events) + (if is_some s.stop then 0 else 1)

abbrev pub left : Driver → ℕ
left driver = sum_by left_of (stations driver)

-- why a rank stops that is told to, where it hasn't stopped: its harts are stopped, or its turns are as many as it gets
abbrev pub told_stop : Rank → Stop
told_stop rank = if all_stopped rank then Stop.AllEnded else Stop.Budget

abbrev pub last_stop : Rank → Option Stop → Stop
last_stop rank None = told_stop rank
last_stop rank (Some stop) = stop

-- seats that are at their ends, one after another
abbrev pub end_of : Seat → RankOfTurns × Option Stop
end_of seat = (seat.rank, Some (last_stop (station seat).rank seat.stop))

abbrev pub ended : Done → RankOfTurns × Option Stop
ended done = (done.rank, Some done.stop)

abbrev pub AreDone : List Seat → List Done → Type 0
AreDone seats all = map end_of seats ≡ map ended all

-- what a driver leaves: the record of its seats at their ends
pub record IsLeftBy (driver : Driver) (left_behind : Record) : Type 0 where
  pub all : List Done
  pub done : AreDone driver.seats.items all
  pub record_is : IsRecordOf driver.hub.links driver.channels.items driver.hub.entries all left_behind

-- all ranks as they are loaded, a hub that was never called, and a new channel for each link
pub record IsDriver (image : ImageParts) (plans : List Plan) (driver : Driver) : Type 0 where
  pub count_is : length driver.seats.items ≡ image.ranks
  pub ranks_are : map (λ (seat : Seat). rank_of seat.rank.state) driver.seats.items
      ≡ map (loaded image) (below image.ranks)
  pub plans_are : AreAt plans driver.seats.items
  pub fresh : AreFresh image driver.channels.items driver.seats.items
  pub channels_are : length driver.channels.items ≡ length image.links
  pub few_links : length image.links ≤ most_links
  pub joined : All (IsLink image.ranks) image.links
  pub links_are : driver.hub.links ≡ image.links
  pub no_calls : driver.hub.entries ≡ []

-- and room for what their run leaves
pub record IsLoaded (image : ImageParts) (plans : List Plan) (driver : Driver) (lists : Lists) : Type 0 where
  pub loaded : IsDriver image plans driver
  pub room : HaveRoom image.ranks (length image.links) lists
