-- What a rank's thread is handed, and what it makes of it.
use Rattle.std.specs.Prelude.{ℕ, ◌≡◌, ◌≤◌, ⊤, List, [], ◌∷◌, None, length, map}
use Rattle.std.specs.List.{AllByRecursion}
use Rattle.rv_image_types.specs.declared.images.ImageVersion.{ImageVersion}
use Rattle.part_channel.specs.Channels.{ChannelView}
use Rattle.cl_deeds.specs.Deeds.{Deed, PartRun, event_of}
use Rattle.cl_deeds.specs.Alone.{IsAlone}
use Rattle.cl_rank.specs.RankSides.{AreChannelsOf, KeysMove, Sides}
use Rattle.cl_rank.specs.Turning.{RankView}
use Rattle.cl_rank.specs.Views.{view_of}
use Rattle.cl_rank.specs.declared.stops.Stop.{Stop}
use Rattle.cl_record.specs.Records.{FollowsPlan}
use Rattle.cl_record.specs.declared.plans.Plan.{Plan}
use Rattle.cl_record.specs.declared.seats.Seat.{Seat}
use Rattle.cl_record.specs.declared.done.Done.{Done}
use Rattle.cl_threads.specs.Alone.{StopsFor}
use Rattle.cl_threads.specs.Cuts.{IsBy}
use Rattle.cl_threads.specs.declared.until.Until.{Until}

-- what a rank's deeds, one after another, make of its sides' keys
abbrev pub KeysGo : ImageVersion → Sides → List Deed → Sides → Type 0
KeysGo version old ds new =
    PartRun (λ (a : Sides) (d : Deed) (b : Sides). KeysMove version d.stamp d.act a b) old ds new

-- a rank went alone by these deeds, all of which are its own: they are its events, by its plan, and what they met is
-- what its keys know; and it stopped
pub record WentBy (plan : Plan) (old new : RankView) (stop : Stop) (deeds : List Deed) : Type 0 where
  pub own : AllByRecursion (λ (d : Deed). d.rank ≡ old.rank.site.number) deeds
  pub alone : IsAlone old.rank deeds new.rank
  pub traced : new.events ≡ map event_of deeds
  pub keys : KeysGo old.rank.site.version old.sides deeds new.sides
  pub follows_plan : FollowsPlan plan new.events
  pub in_budget : length new.events ≤ plan.budget
  pub stops : StopsFor plan new.rank new.events stop

-- a seat that took no turn, over these channels
pub record IsReady (channels : List ChannelView) (seat : Seat) : Type 0 where
  pub no_events : seat.rank.trace.events ≡ []
  pub first_place : seat.next ≡ 0
  pub runs : seat.stop ≡ None
  pub over : AreChannelsOf (view_of seat.rank).rank.site.version channels (view_of seat.rank).sides

-- what its thread makes of it
pub record IsDone (until : Until) (channels : List ChannelView) (seat : Seat) (done : Done) : Type 0 where
  pub by : Plan
  pub is_by : IsBy until seat.plan.now by done.stop
  pub deeds : List Deed
  pub went : WentBy by (view_of seat.rank) (view_of done.rank) done.stop deeds
  pub over : AreChannelsOf (view_of done.rank).rank.site.version channels (view_of done.rank).sides

-- one after another
abbrev pub AreReady : List ChannelView → List Seat → Type 0
AreReady channels [] = ⊤
AreReady channels (seat ∷ seats) = IsReady channels seat × AreReady channels seats

-- seats whose threads can be started: they took no turn, there is a way past the gate for each, and what comes of them finds
-- room among nothing else
abbrev pub AreSeated : List ChannelView → List Seat → ℕ → List Done → ℕ → Type 0
AreSeated channels seats passages done room =
    AreReady channels seats × (passages ≡ length seats) × (done ≡ []) × (length seats ≤ room)

-- one for each
abbrev pub AreDone : Until → List ChannelView → List Seat → List Done → Type 0
AreDone until channels [] [] = ⊤
AreDone until channels (seat ∷ seats) (done ∷ runs) = IsDone until channels seat done × AreDone until channels seats runs
AreDone until channels _ _ = ⊥
