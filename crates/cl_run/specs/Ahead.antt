-- Ranks that took turns ahead of their slots. A plain turn reads and changes nothing but its rank, so it is the same
-- turn whether it is taken in its slot or before.
use Rattle.std.specs.Prelude.{ℕ, ◌≡◌, ◌≢◌, ◌<◌, ◌≤◌, ◌+◌, ◌-◌, ◌⊎◌, Bool, true, false, List, length, sum_by}
use Rattle.std.specs.Prelude.{slice_get, slice_index, slice_set, Some, None}
use Rattle.rv_image_types.specs.declared.images.ImageParts.{ImageParts}
use Rattle.part_channel.specs.Channels.{ChannelView}
use Rattle.cl_rank.specs.Plains.{Repeats}
use Rattle.cl_rank.specs.RankSides.{AreChannelsOf}
use Rattle.cl_deeds.specs.Orders.{in_slot}
use Rattle.cl_record.specs.Seats.{Station, TakesPlainTurn, station}
use Rattle.cl_record.specs.declared.plans.Plan.{Plan}
use Rattle.cl_record.specs.declared.seats.Seat.{Seat}
use Rattle.cl_run.specs.declared.driver.Driver.{Driver}
use Rattle.cl_run.specs.Driver.{AreJoined, AreSeated, IsStoppedAt, left, stations}
use Rattle.cl_run.specs.UnderWay.{IsUnderWay}

-- a rank as it is at the slot that the order has come to, and as its seat has it: so many plain turns further. One that
-- is stopped is at its slot
pub record IsAhead (plan : Plan) (n : ℕ) (behind ahead : Station) : Type 0 where
  pub turns : Repeats (TakesPlainTurn plan) n behind ahead
  pub runs : 0 < n → behind.stop ≡ None

-- the same of each rank, each by its own number of turns
pub record AreAhead (plans : List Plan) (turns : List ℕ) (behind ahead : List Station) : Type 0 where
  pub one_each : length behind ≡ length ahead
  pub each : (r : ℕ) (plan : Plan) (s t : Station) → slice_get plans r ≡ Some plan → slice_get behind r ≡ Some s
      → slice_get ahead r ≡ Some t → IsAhead plan (slice_index turns r) s t

-- the steps so far, with all slots below this one gone through, of a driver whose ranks went on ahead of it
pub record IsAheadOf (image : ImageParts) (plans : List Plan) (order : List ℕ) (turns : List ℕ) (driver : Driver)
    (slot : ℕ) : Type 0 where
  pub behind : List Station
  pub ahead : AreAhead plans turns behind (stations driver)
  pub under_way : IsUnderWay image plans order behind driver.hub slot

-- the order names whoever is ahead
abbrev pub AreNamed : List ℕ → List ℕ → Type 0
AreNamed order turns =
    (r : ℕ) → 0 < slice_index turns r → (place : ℕ) × (place < length order) × (slice_index order place ≡ r)

-- turns that are left, and slots that wait to be gone through by whoever is ahead
abbrev pub left_ahead : Driver → List ℕ → ℕ
left_ahead driver turns = left driver + sum_by (λ (n : ℕ). n) turns

-- whether rank number r is ahead; if so, it is by one turn less
abbrev pub Spends : ℕ → List ℕ → List ℕ → Bool → Type 0
Spends r old new true = (0 < slice_index old r) × (new ≡ slice_set old r (slice_index old r - 1))
Spends r old new false = (new ≡ old) × (slice_index old r ≡ 0)

-- rank number r, which was at its slot, runs ahead of it, and no other
pub record RunsAhead (r : ℕ) (old : Driver) (turns : List ℕ) (new : Driver) (more : List ℕ) : Type 0 where
  pub n : ℕ
  pub seat : Seat
  pub later : Seat
  pub there : slice_get old.seats.items r ≡ Some seat
  pub runs : seat.stop ≡ None
  pub inside : r < length turns
  pub at_slot : slice_index turns r ≡ 0
  pub goes : Repeats (TakesPlainTurn seat.plan.now) n (station seat) (station later)
  pub plan_stays : later.plan.now ≡ seat.plan.now
  pub own : (channels : List ChannelView)
      → AreChannelsOf (station seat).rank.site.version channels (station seat).sides
      → AreChannelsOf (station later).rank.site.version channels (station later).sides
  pub seats_are : new.seats.items ≡ slice_set old.seats.items r later
  pub hub_stays : new.hub ≡ old.hub
  pub channels_stay : new.channels.items ≡ old.channels.items
  pub more_is : more ≡ slice_set turns r n

-- that, or nothing
abbrev pub MayRunAhead : ℕ → Driver → List ℕ → Driver → List ℕ → Type 0
MayRunAhead r old turns new more = ((new ≡ old) × (more ≡ turns)) ⊎ RunsAhead r old turns new more

-- a slot of rank number r is gone through, and something was done
pub record SlotGone (r : ℕ) (old : Driver) (turns : List ℕ) (new : Driver) (later : List ℕ) : Type 0 where
  pub joined : AreJoined new
  pub count : length new.seats.items ≡ length old.seats.items
  pub seated : (plans : List Plan) → AreSeated plans old → AreSeated plans new
  pub goes : (image : ImageParts) (plans : List Plan) (order : List ℕ) (slot : ℕ) → in_slot order slot ≡ r
      → AreSeated plans old → IsAheadOf image plans order turns old slot
      → IsAheadOf image plans order later new (slot + 1)
  pub others : (q : ℕ) → r ≢ q → slice_index later q ≡ slice_index turns q
  pub less : left_ahead new later + 1 ≤ left_ahead old turns

-- what one slot does to rank number r and its turns ahead: nothing where it is stopped
abbrev pub SlotGoesAhead : ℕ → Driver → List ℕ → Driver → List ℕ → Bool → Type 0
SlotGoesAhead r old turns new later false =
    (new ≡ old) × (later ≡ turns) × IsStoppedAt (stations old) r × (slice_index turns r ≡ 0)
SlotGoesAhead r old turns new later true = SlotGone r old turns new later
