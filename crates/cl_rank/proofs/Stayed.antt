-- A rank that waits on: only its clock changes.
use Rattle.std.proofs.Common.{◌≡◌, ℕ, ◌<◌, ◌≤◌, ◌^◌, List, Option, Some, None, refl, sym, subst, ◌∙◌, arith}
use Rattle.mp_types.specs.declared.replies.Reply.TheVariants as reply
use Rattle.mp_types.specs.declared.requests.Request.{Request}
use Rattle.part_channel.specs.Receiving.{RecvView}
use Rattle.part_channel.specs.Sending.{SendView}
use Rattle.cl_state.specs.declared.state.RankState.{RankState}
use Rattle.cl_state.specs.Asked.{asked}
use Rattle.cl_state.specs.Room.{rank_of}
use Rattle.cl_state.specs.TurnRoom.{HasRoom}
use Rattle.cl_state.specs.Rank.{Rank}
use Rattle.cl_deeds.specs.Deeds.{Act}
use Rattle.cl_rank.specs.Fitting.{RequestsFit}
use Rattle.cl_sides.specs.Sides.{AreSides, sides_in}
use Rattle.cl_rank.specs.declared.ranks.Rank.{Rank as Running}
use Rattle.cl_rank.specs.Roomy.{IsAgain, IsRoomy}
use Rattle.cl_rank.specs.Views.{HasTurn, MayWait, Stays, at_clock}
use Rattle.cl_rank.proofs.Keys.{keys_stay}
use Rattle.cl_rank.proofs.Moves.{Moved, later}
use Rattle.cl_rank.proofs.Went.{Went}

pub stayed : (rank : Rank) (stamp : ℕ) (request : Request) (sends : List (ℕ × SendView)) (recvs : List (ℕ × RecvView))
    → AreSides rank.site.version rank.phases rank.clock (sides_in sends recvs) → RequestsFit rank.requests rank.phases
    → rank.clock ≤ stamp
    → Moved rank (at_clock rank stamp) (sides_in sends recvs) (sides_in sends recvs) stamp
    (Act.Hub rank.clock request reply.NotYet)
stayed rank stamp request sends recvs sides fit low = record {
  sides = later rank.site.version rank.phases rank.clock stamp _ low sides;
  fit = fit;
  keys = keys_stay rank.site.version stamp (Act.Hub rank.clock request reply.NotYet) _ _ refl (λ l p. refl) (λ l p. refl);
  own = λ channels own. own;
}

-- a rank that waits on
pub waited : (r : Running) (new : RankState) {hart stamp : ℕ} {request : Request} → MayWait r hart request
    → (r.state.clock < stamp) × (stamp < 2 ^ 62) → rank_of new ≡ at_clock (rank_of r.state) stamp
    → Went r hart stamp (Act.Hub r.state.clock request reply.NotYet) new (sides_in r.sends.items r.recvs.items)
waited r new {hart} {stamp} {request} may stamps is = record {
  there = may.has.there;
  low = stamps.1;
  answers = may.turn.asks;
  stamps = (refl, stamps.0);
  tells = is ∙ sym (may.turn.stays stamp);
  moved = subst (λ (x : Rank). Moved (rank_of r.state) x (sides_in r.sends.items r.recvs.items)
      (sides_in r.sends.items r.recvs.items) stamp (Act.Hub r.state.clock request reply.NotYet)) (sym is)
      (stayed (rank_of r.state) stamp request r.sends.items r.recvs.items r.sides r.fit (omega (arith, stamps.0)));
}

-- the clock changes nothing of what a hart asks again
pub moved : (state : RankState) (stamp hart : ℕ) (again : Option Request) → IsAgain state hart again
    → IsAgain (record state { clock = stamp }) hart again
unfolding asked
moved state stamp hart None again = again
moved state stamp hart (Some request) again = record { waits = again.waits; asks = again.asks }

-- the room of the hart that is named, and what it asks for
pub room_of : (state : RankState) (roomy : Option ℕ) (again : Option Request) (hart : ℕ) → IsRoomy state roomy again
    → roomy ≡ Some hart → HasRoom state hart × IsAgain state hart again
room_of state roomy again hart room is = subst (λ (o : Option ℕ). IsRoomy state o again) is room

-- a hart whose poll was just in vain, and whose turn stays, may wait on
pub waits_on : (r : Running) (hart : ℕ) (request : Request) → HasTurn r hart → r.roomy ≡ Some hart
    → Stays r.state hart request → MayWait r hart request
waits_on r hart request has is turn = record {
  has = has;
  turn = turn;
  room = (room_of r.state r.roomy r.again hart r.room is).0;
}

-- and what it asks for
pub asks_again : (r : Running) (hart : ℕ) → r.roomy ≡ Some hart → IsAgain r.state hart r.again
asks_again r hart is = (room_of r.state r.roomy r.again hart r.room is).1
