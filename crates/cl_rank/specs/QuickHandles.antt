-- IRECVs, and WAITs for their messages, which are worked out straight from the registers and the open requests: what they ask,
-- and their rows of the table of calls.
use Rattle.std.specs.Prelude.{ℕ, ◌≡◌, false, is_some, Option, Some, IsTrue}
use Rattle.rv_memory.specs.MorePages.{missing_pages}
use Rattle.mp_types.specs.declared.requests.Request.{Request}
use Rattle.mp_types.specs.declared.requests.Request.TheVariants as request
use Rattle.mp_request.specs.declared.entries.Progress.TheVariants.{OnPost}
use Rattle.mp_request.specs.declared.entries.State.TheVariants.{Ordinary}
use Rattle.mp_request.specs.declared.entries.Transfer.TheVariants as transfer
use Rattle.mp_request.specs.Table.{Table, lowest_free, request_at}
use Rattle.cl_calls.specs.declared.calls.Completing.{Completing}
use Rattle.cl_calls.specs.declared.calls.Receiving.{Receiving}
use Rattle.cl_state.specs.declared.pending.Manner.TheVariants.{Blocking, Posting}
use Rattle.cl_state.specs.declared.row.Purpose.TheVariants.{Open}
use Rattle.cl_state.specs.declared.row.Row.{Row}
use Rattle.cl_state.specs.declared.row.Row.TheVariants.{OnReply}
use Rattle.cl_state.specs.declared.row.Wanted.TheVariants as wanted
use Rattle.cl_state.specs.declared.state.RankState.{RankState}
use Rattle.cl_state.specs.Table.{completing}
use Rattle.cl_state.specs.Transfers.{source_of, tag_of}
use Rattle.cl_rank.specs.QuickReceives.{IsRightReceive}

-- a receive that is right, while a handle is free: it asks for a post, and is opened with it
pub record Opens (s : RankState) (r : Receiving) (row : Row) (asks : Request) : Type 0 where
  pub right : IsRightReceive s.site s.memory r
  pub free : IsTrue (is_some (lowest_free s.requests))
  pub row_is : row
      ≡ OnReply Posting (wanted.Post Open
      (transfer.Receive r.buffer r.capacity (source_of s.site r.comm r.source) (tag_of r.tag) r.comm))
  pub asks_for : asks ≡ request.Recv false r.comm (source_of s.site r.comm r.source) (tag_of r.tag)

-- a receive under this handle that has this post, and goes to this buffer
abbrev pub IsReceive : Table → ℕ → ℕ → ℕ → ℕ → Type 0
IsReceive table handle post buffer capacity =
    (source : Option ℕ) × (tag : Option ℕ) × (comm : ℕ)
    × (request_at table handle
    ≡ Some (record { transfer = transfer.Receive buffer capacity source tag comm; state = Ordinary (OnPost post) }))

-- a wait for such a receive that wants no status, where the pages of the buffer are there: it asks for the message
pub record Waits (s : RankState) (c : Completing) (row : Row) (asks : Request) : Type 0 where
  pub post : ℕ
  pub buffer : ℕ
  pub capacity : ℕ
  pub of : IsReceive s.requests c.handle post buffer capacity
  pub no_status : c.status ≡ 0
  pub pages : missing_pages s.memory.pages buffer capacity ≡ 0
  pub row_is : row ≡ OnReply Blocking (wanted.Message (completing Blocking c buffer capacity))
  pub asks_for : asks ≡ request.Collect post
