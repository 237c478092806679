-- SENDs that are worked out straight from the registers: what they ask, and what their rank is once it is told their post.
use Rattle.std.specs.Prelude.{ℕ, ◌≡◌, ◌≢◌, ◌≤◌, ◌==◌, set, get_or, Some, false, IsTrue}
use Rattle.rv_memory.specs.Memory.{Memory}
use Rattle.mp_types.specs.declared.codes.Code.TheVariants as code
use Rattle.mp_types.specs.declared.requests.Request.{Request}
use Rattle.cl_calls.specs.declared.calls.Call.TheVariants as call
use Rattle.cl_calls.specs.declared.calls.Sending.{Sending}
use Rattle.cl_calls.specs.declared.sites.Site.{Site}
use Rattle.cl_calls.specs.Calls.{no_rank}
use Rattle.cl_calls.specs.Checks.{is_buffer, is_comm, is_peer, is_tag}
use Rattle.cl_calls.specs.Needs.{destination, one_tag, reads}
use Rattle.cl_state.specs.declared.asking.Ask.TheVariants as ask
use Rattle.cl_state.specs.declared.asking.Doing.TheVariants.{Go}
use Rattle.cl_state.specs.declared.state.RankState.{RankState}
use Rattle.cl_state.specs.Asked.{asked, doing, no_hart, part_of}
use Rattle.cl_state.specs.Rank.{Rank}
use Rattle.cl_state.specs.Room.{rank_of}
use Rattle.cl_state.specs.Told.{returned}
use Rattle.cl_state.specs.TurnRoom.{HasRoom}
use Rattle.cl_rank.specs.declared.ranks.Rank.{Rank as Running}
use Rattle.cl_rank.specs.Views.{HasTurn}

-- a send to a member of its communicator of as few bytes as take no memory, whose checks hold
abbrev pub IsShortSend : Site → Memory → Sending → Type 0
IsShortSend site memory s =
    IsTrue (is_comm site (Some s.comm))
    × IsTrue (is_peer site (Some s.comm) (Some (destination s.dest)))
    × (s.dest ≢ no_rank)
    × IsTrue (is_tag (one_tag s.tag))
    × (s.count ≤ 16)
    × IsTrue (is_buffer memory (reads s.buffer s.count))

-- the turn of a hart is a SEND to a member, and asks the hub this
pub record Sends (s : RankState) (hart : ℕ) (request : Request) : Type 0 where
  pub sending : Sending
  pub turn : doing s.site (part_of (rank_of s) hart) ≡ Go (call.Send sending)
  pub moves : (sending.dest == no_rank) ≡ false
  pub asks : asked (rank_of s) hart ≡ ask.Hub request

-- a rank that may take such a turn, with the room for it
pub record MaySend (r : Running) (hart : ℕ) (request : Request) : Type 0 where
  pub has : HasTurn r hart
  pub turn : Sends r.state hart request
  pub room : HasRoom r.state hart

-- the call of a hart is over, and the clock is this
abbrev pub sent_at : Rank → ℕ → ℕ → Rank
sent_at rank hart clock =
    record rank { harts = set rank.harts hart (returned code.Ok 0 (get_or rank.harts hart no_hart)); clock = clock }
