-- RECVs that are worked out straight from the registers: what they ask, and what their rank is once it has the message.
use Rattle.std.specs.Prelude.{ℕ, ◌≡◌, ◌≢◌, ◌≤◌, ◌==◌, List, length, set, get_or, is_some, Some, true, false, IsTrue}
use Rattle.rv_memory.specs.Memory.{Memory}
use Rattle.rv_memory.specs.MorePages.{missing_pages}
use Rattle.mp_types.specs.declared.codes.Code.TheVariants as code
use Rattle.mp_types.specs.declared.replies.Reply.{Reply}
use Rattle.mp_types.specs.declared.replies.Reply.TheVariants.{Got}
use Rattle.mp_types.specs.declared.requests.Request.{Request}
use Rattle.mp_types.specs.declared.requests.Request.TheVariants as request
use Rattle.cl_calls.specs.declared.calls.Call.TheVariants as call
use Rattle.cl_calls.specs.declared.calls.Receiving.{Receiving}
use Rattle.cl_calls.specs.declared.sites.Site.{Site}
use Rattle.cl_calls.specs.Calls.{no_rank}
use Rattle.cl_calls.specs.Checks.{is_buffer, is_comm, is_peer, is_tag}
use Rattle.cl_calls.specs.Needs.{source, tag_or_any, writes}
use Rattle.cl_calls.specs.Site.{members, position_of}
use Rattle.cl_state.specs.declared.asking.Ask.TheVariants as ask
use Rattle.cl_state.specs.declared.asking.Doing.TheVariants.{Go}
use Rattle.cl_state.specs.declared.state.RankState.{RankState}
use Rattle.cl_state.specs.Asked.{asked, doing, no_hart, part_of}
use Rattle.cl_state.specs.Rank.{Rank}
use Rattle.cl_state.specs.Room.{rank_of}
use Rattle.cl_state.specs.Told.{returned}
use Rattle.cl_state.specs.Transfers.{source_of, tag_of}
use Rattle.rv_hart.specs.State.{in_mode}
use Rattle.rv_hart.specs.declared.state.Mode.TheVariants.{Waiting}
use Rattle.rv_hart.specs.declared.state.Wait.TheVariants.{Post}
use Rattle.cl_state.specs.TurnRoom.{HasRoom}
use Rattle.cl_state.specs.Written.{written}
use Rattle.cl_rank.specs.declared.ranks.Rank.{Rank as Running}
use Rattle.cl_rank.specs.Views.{HasTurn}

-- a receive from a member of its communicator, or any of them, whose checks hold
abbrev pub IsRightReceive : Site → Memory → Receiving → Type 0
IsRightReceive site memory r =
    IsTrue (is_comm site (Some r.comm))
    × IsTrue (is_peer site (Some r.comm) (Some (source r.source)))
    × (r.source ≢ no_rank)
    × IsTrue (is_tag (tag_or_any r.tag))
    × (r.capacity ≤ 4096)
    × IsTrue (is_buffer memory (writes r.buffer r.capacity))

-- and whose buffer's pages are there
abbrev pub IsRoomyReceive : Site → Memory → Receiving → Type 0
IsRoomyReceive site memory r =
    IsRightReceive site memory r × (missing_pages memory.pages r.buffer r.capacity ≡ 0)

-- what it asks the hub: its message, or a post
abbrev pub request_in : RankState → Receiving → Request
request_in s r = request.Recv true r.comm (source_of s.site r.comm r.source) (tag_of r.tag)

-- the turn of a hart is a RECV of this kind, which wants no status, and asks the hub this
pub record Receives (s : RankState) (hart : ℕ) (r : Receiving) (request : Request) : Type 0 where
  pub turn : doing s.site (part_of (rank_of s) hart) ≡ Go (call.Recv r 0)
  pub moves : (r.source == no_rank) ≡ false
  pub asks : asked (rank_of s) hart ≡ ask.Hub request
  pub roomy : IsRoomyReceive s.site s.memory r

-- a rank that may take such a turn, with the room for it
pub record MayReceive (rank : Running) (hart : ℕ) (r : Receiving) (request : Request) : Type 0 where
  pub has : HasTurn rank hart
  pub turn : Receives rank.state hart r request
  pub room : HasRoom rank.state hart

-- the reply is a message of a member, which the buffer takes whole
abbrev pub Fits : Site → Receiving → Reply → Type 0
Fits site r (Got message) =
    (is_some (position_of message.envelope.source (members site message.envelope.comm)) ≡ true)
    × (length message.bytes ≤ r.capacity)
Fits site r _ = ⊥

-- the bytes stand in the buffer, the call of the hart is over, and the clock is this
abbrev pub got_at : Rank → ℕ → ℕ → List ℕ → ℕ → Rank
got_at rank hart buffer bytes clock =
    record rank {
      memory = written rank.memory buffer bytes;
      harts = set rank.harts hart (returned code.Ok 0 (get_or rank.harts hart no_hart));
      clock = clock;
    }

-- the hart waits for its post, and the clock is this
abbrev pub waits_at : Rank → ℕ → ℕ → ℕ → Rank
waits_at rank hart post clock =
    record rank { harts = set rank.harts hart (in_mode (get_or rank.harts hart no_hart) (Waiting (Post post))); clock = clock }
