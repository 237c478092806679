-- What contracts see of a rank that takes turns, what a turn of it leans on, what it leaves, and how it ends.
use Rattle.std.specs.Prelude.{ℕ, ◌≡◌, ◌<◌, ◌+◌, ◌^◌, List, [], ◌∷◌, ◌++◌, length, Option, Some, None, vec_len}
use Rattle.std.specs.Prelude.{Result, IfErr, OnErr, OnOk}
use Rattle.mp_types.specs.declared.replies.Reply.{Reply}
use Rattle.mp_types.specs.declared.replies.Reply.TheVariants as reply
use Rattle.mp_types.specs.declared.requests.Request.{Request}
use Rattle.part_channel.specs.Channels.{ChannelView}
use Rattle.cl_state.specs.Asked.{asked}
use Rattle.cl_state.specs.Room.{rank_of}
use Rattle.cl_state.specs.TurnRoom.{HasRoom, IsNext, row_at}
use Rattle.cl_state.specs.Told.{told}
use Rattle.cl_state.specs.Rank.{Rank as RankAlone}
use Rattle.cl_state.specs.declared.asking.Ask.{Ask}
use Rattle.cl_state.specs.declared.asking.Ask.TheVariants as ask
use Rattle.cl_state.specs.declared.asking.Answer.TheVariants.{Alone}
use Rattle.cl_state.specs.declared.asking.Answer.TheVariants as answer
use Rattle.cl_state.specs.declared.state.RankState.{RankState}
use Rattle.cl_trace.specs.declared.events.Kind.{Kind}
use Rattle.cl_rank.specs.declared.ranks.Rank.{Rank}
use Rattle.cl_sides.specs.declared.steps.BoxId.{BoxId}
use Rattle.cl_rank.specs.declared.stops.Stop.{Stop}
use Rattle.cl_rank.specs.declared.turning.Turn.{Turn}
use Rattle.cl_deeds.specs.Deeds.{Act, Deed, event_of, RankMoves, Suits, answer_of, kind_of, request_of}
use Rattle.cl_rank.specs.Sides.{box_id_of}
use Rattle.cl_sides.specs.Sides.{AreChannelsOf, sides_in}
use Rattle.cl_rank.specs.RankSides.{KeysMove}
use Rattle.cl_rank.specs.Turning.{DeskRule, IsTurn, RankView, StopHolds}
use Rattle.cl_deeds.specs.Turns.{IsActive}

-- a box as the pair of its link and its number there
abbrev pub place_in : Option BoxId → Option (ℕ × ℕ)
place_in None = None
place_in (Some box) = Some (box.link, box.part)

abbrev pub view_of : Rank → RankView
view_of r = record {
  rank = rank_of r.state;
  events = r.trace.events;
  sides = sides_in r.sends.items r.recvs.items;
  asked_box = place_in r.asked_box;
}

-- these channels, of all links by number, are those of the rank's sides
abbrev pub IsOver : Rank → List ChannelView → Type 0
IsOver r channels = AreChannelsOf r.state.site.version channels (view_of r).sides

-- a rank at another clock
abbrev pub at_clock : RankAlone → ℕ → RankAlone
at_clock rank clock = record rank { clock = clock }

-- ---- what a turn leans on

-- a rank that has this hart and a turn left, a stamp for it, and room for its event
pub record HasTurn (r : Rank) (hart : ℕ) : Type 0 where
  pub there : hart < vec_len r.state.harts
  pub low : r.state.clock + 1 < 2 ^ 62
  pub left : length r.trace.events < r.budget
  pub few : length r.trace.events + 1 < 2 ^ 64
  pub space : 0 < r.trace.room

-- such a rank, where the turn is this one
pub record MayTurn (r : Rank) (t : Turn) : Type 0 where
  pub has : HasTurn r t.hart
  pub next : IsNext r.state t.hart t.doing
  pub row : t.row ≡ row_at r.state t.hart t.doing
  pub room : HasRoom r.state t.hart

-- the turn of a hart asks the hub this, and where nothing is there yet only the clock moves
pub record Stays (s : RankState) (hart : ℕ) (request : Request) : Type 0 where
  pub asks : asked (rank_of s) hart ≡ ask.Hub request
  pub stays : (stamp : ℕ) → told (rank_of s) hart (answer.Reply reply.NotYet) stamp ≡ at_clock (rank_of s) stamp

-- such a rank, where the turn of a hart asks this and may leave all but the clock as it is
pub record MayWait (r : Rank) (hart : ℕ) (request : Request) : Type 0 where
  pub has : HasTurn r hart
  pub turn : Stays r.state hart request
  pub room : HasRoom r.state hart

-- a turn that asks nobody is an act of this kind
pub record AsksNobody (asks : Ask) (told : Kind) : Type 0 where
  pub act : Act
  pub answers : Suits asks act
  pub alone : answer_of act ≡ Alone
  pub quiet : request_of act ≡ None
  pub nowhere : box_id_of act ≡ None
  pub kind : told ≡ kind_of act

-- ---- what a turn leaves, and how it ends

-- what a turn of a hart by this deed leaves of a rank: the rank moves by it, its event stands behind the events before,
-- the keys are what it made of them, and the box is noted that it asked. The sides have the channels that they had; the
-- budget and the number of harts stay
pub record TurnLeaves (hart : ℕ) (deed : Deed) (old new : Rank) : Type 0 where
  pub rank : deed.rank ≡ old.state.site.number
  pub by : deed.hart ≡ hart
  pub event : new.trace.events ≡ old.trace.events ++ event_of deed ∷ []
  pub moves : RankMoves (rank_of old.state) deed (rank_of new.state)
  pub keys : KeysMove old.state.site.version deed.stamp deed.act (view_of old).sides (view_of new).sides
  pub box : (view_of new).asked_box ≡ box_id_of deed.act
  pub own : (channels : List ChannelView) → IsOver old channels → IsOver new channels
  pub budget : new.budget ≡ old.budget
  pub harts : vec_len new.state.harts ≡ vec_len old.state.harts

-- a turn of a hart that tells the desk nothing
pub record IsQuietTurn (hart : ℕ) (old new : Rank) : Type 0 where
  pub deed : Deed
  pub quiet : request_of deed.act ≡ None
  pub leaves : TurnLeaves hart deed old new

abbrev pub hub_deed : ℕ → Request → Reply → ℕ → Rank → Deed
hub_deed hart request reply stamp old = record {
  rank = old.state.site.number;
  hart = hart;
  stamp = stamp;
  act = Act.Hub old.state.clock request reply;
}

-- a turn of a hart that asked the hub for this, and was replied that
abbrev pub IsHubTurn : ℕ → Request → Reply → ℕ → Rank → Rank → Type 0
IsHubTurn hart request reply stamp old new = TurnLeaves hart (hub_deed hart request reply stamp old) old new

-- how a turn of a hart ends, over a desk and these channels. Ok: there was a turn to take, and it was taken. Err: why
-- there was none, and the rank is as it was. Either way the sides have their channels, and the budget and the number of
-- harts stay
pub record TurnEnds {D : Type 0} (gives : DeskRule D) (hart : ℕ) (channels : List ChannelView) (old : Rank) (desk : D)
    (result : Result (Unit {0}) Stop) (new : Rank) (left : D) : Type 0 where
  pub turned : OnOk result (IsTurn gives hart (view_of old) (view_of new) desk left)
  pub active : OnOk result (IsActive (rank_of old.state) (length old.trace.events) old.budget)
  pub stop : IfErr result
      (λ stop. StopHolds gives hart (rank_of old.state) old.trace.room (length old.trace.events) old.budget desk left stop)
  pub unchanged : OnErr result (view_of new ≡ view_of old)
  pub own : IsOver new channels
  pub budget : new.budget ≡ old.budget
  pub harts : vec_len new.state.harts ≡ vec_len old.state.harts
