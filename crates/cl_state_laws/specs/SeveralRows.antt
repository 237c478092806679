-- Worked rows of calls that complete several requests.
use Rattle.std.specs.Prelude.{◌≡◌, ℕ, ◌-◌, ◌^◌, List, [], ◌∷◌, ◌++◌, map, replicate, take, Option, Some, None}
use Rattle.rv_memory.specs.Memory.{Memory}
use Rattle.rv_hart.specs.declared.state.Mode.TheVariants.{Waiting}
use Rattle.rv_hart.specs.declared.state.Wait.TheVariants.{Again}
use Rattle.mp_types.specs.declared.codes.Code.{Code}
use Rattle.mp_types.specs.declared.codes.Code.TheVariants as code
use Rattle.mp_types.specs.declared.messages.Message.{Message}
use Rattle.mp_types.specs.declared.replies.Reply.TheVariants as reply
use Rattle.mp_types.specs.declared.requests.Request.TheVariants as request
use Rattle.mp_request.specs.declared.entries.Progress.TheVariants.{Finished, Sent, OnPost}
use Rattle.mp_request.specs.declared.entries.Transfer.{Transfer}
use Rattle.mp_request.specs.declared.entries.Transfer.TheVariants.{ReceiveFromNull, Receive}
use Rattle.mp_request.specs.Table.{Table, no_requests}
use Rattle.cl_calls.specs.declared.calls.Call.{Call}
use Rattle.cl_calls.specs.declared.calls.Several.{Several}
use Rattle.cl_calls.specs.Needs.{needs_of}
use Rattle.cl_calls.specs.Checks.{checks, first_fault}
use Rattle.cl_state.specs.declared.asking.Answer.{Answer}
use Rattle.cl_state.specs.declared.asking.Ask.{Ask}
use Rattle.cl_state.specs.Rank.{Rank}
use Rattle.cl_state.specs.Asked.{asked}
use Rattle.cl_state.specs.Told.{told}
use Rattle.cl_state.specs.Rows.{calling, first_of_two, one_page, small_memory}
use Rattle.cl_state_laws.specs.CallRows.{behind, message, stranger, status_bytes}
use Rattle.cl_state_laws.specs.RequestRows.{table_of, holder, ordinary, inactive, active, replied, empty_status}
use Rattle.cl_state_laws.specs.RequestRows.{null_status, send, receive}

-- the small memory with 16 other bytes at 16
abbrev pub arrayed : List ℕ → Memory
arrayed bytes = record { bytes = take 16 small_memory.bytes ++ bytes ++ replicate 32 9; text = 8; pages = one_page }

-- a handle of 8 bytes
abbrev pub handle : ℕ → List ℕ
handle h = h ∷ replicate 7 0

abbrev pub several : ℕ → ℕ → ℕ → Several
several array count statuses = record { array = array; count = count; statuses = statuses }

-- TESTALL (34) or WAITALL (35) of the handles at 16
abbrev pub completing_two : Table → ℕ → ℕ → ℕ → ℕ → Rank
completing_two table first second statuses number = record (holder table (16 ∷ 2 ∷ statuses ∷ []) number) {
  memory = arrayed (handle first ++ handle second);
}

-- the call ended at clock 9 with these in a0 and a1
abbrev pub ended_two : ℕ → ℕ → Table → Memory → ℕ → ℕ → Rank
ended_two c value table memory statuses number = record (holder table [] number) {
  harts = behind (c ∷ value ∷ statuses ∷ []) number ∷ [];
  memory = memory;
  clock = 9;
}

-- receives of at most 4 bytes, at 40 and at 44
abbrev pub receive_at : ℕ → Transfer
receive_at buffer = Receive buffer 4 None None 0

abbrev pub done_and_pending : Table
done_and_pending = table_of (ordinary send (Sent 2) ∷ ordinary (receive_at 40) (OnPost 3) ∷ [])

abbrev pub two_pending : Table
two_pending = table_of (active (receive_at 40) (OnPost 3) ∷ ordinary (receive_at 44) (OnPost 4) ∷ [])

-- both receives wrote their bytes, at 40 and at 44
abbrev pub two_written : ℕ → ℕ → List ℕ → Memory
two_written first second fourth = record {
  bytes =
      take 16 small_memory.bytes ++ handle first ++ handle second ++ replicate 8 9 ++ 1 ∷ 2 ∷ 3 ∷ 4 ∷ fourth
      ++ replicate 16 9;
  text = 8;
  pages = one_page;
}

-- one done and one pending: flag 0, and both are as they were; with the message both complete
abbrev pub DoneAndPendingRow : Type 0
DoneAndPendingRow =
    (asked (completing_two done_and_pending 1 2 0 34) 0 ≡ Ask.Hub (request.All (3 ∷ [])))
    × (replied (completing_two done_and_pending 1 2 0 34) reply.NotYet
    ≡ ended_two 0 0 done_and_pending (arrayed (handle 1 ++ handle 2)) 0 34)
    × (replied (completing_two done_and_pending 1 2 0 34) (reply.AllGot (Some (message (1 ∷ 2 ∷ 3 ∷ 4 ∷ [])) ∷ []))
    ≡ ended_two 0 1 no_requests (two_written 1 2 (replicate 4 9)) 0 34)
    ×
    (replied (completing_two done_and_pending 1 2 0 35) reply.NotYet
    ≡ record (completing_two done_and_pending 1 2 0 35) {
      harts = record (calling (16 ∷ 2 ∷ 0 ∷ []) 35) { mode = Waiting Again } ∷ [];
      clock = 9;
    })

-- one truncated message is enough for code 7; the started request is inactive again, the ordinary one is gone
abbrev pub TwoPendingRow : Type 0
TwoPendingRow =
    (asked (completing_two two_pending 2 1 0 34) 0 ≡ Ask.Hub (request.All (4 ∷ 3 ∷ [])))
    ×
    (replied (completing_two two_pending 1 2 0 34) (reply.AllGot (Some (message (1 ∷ 2 ∷ 3 ∷ 4 ∷ 5 ∷ [])) ∷ Some
    (message (6 ∷ [])) ∷ []))
    ≡ ended_two 7 1 (table_of (inactive (receive_at 40) ∷ [])) (two_written 1 2 (6 ∷ replicate 3 9)) 0 34)
    ×
    (replied (completing_two two_pending 1 2 0 35) (reply.AllGot (Some (message (1 ∷ 2 ∷ 3 ∷ 4 ∷ [])) ∷ Some
    (message (6 ∷ 7 ∷ 8 ∷ 9 ∷ 10 ∷ [])) ∷ []))
    ≡ ended_two 7 0 (table_of (inactive (receive_at 40) ∷ [])) (two_written 1 2 (6 ∷ 7 ∷ 8 ∷ 9 ∷ [])) 0 35)

-- too few, too many, none for a receive, or a message of a stranger: code 6, and nothing changes
abbrev pub unfit : List (Option Message) → Rank
unfit gots = replied (completing_two done_and_pending 1 2 0 34) (reply.AllGot gots)

abbrev pub UnfitRow : Type 0
UnfitRow =
    map unfit ([] ∷ (Some (message []) ∷ None ∷ []) ∷ (None ∷ []) ∷ (Some stranger ∷ []) ∷ [])
    ≡ replicate 4 (ended_two 6 0 done_and_pending (arrayed (handle 1 ++ handle 2)) 0 34)

-- null requests and inactive ones are complete, with the empty status; a receive from the null process has (-2, -1, 0).
-- The statuses lie over the array of handles, which was read before
abbrev pub StatusesRow : Type 0
StatusesRow =
    (asked (completing_two no_requests 0 0 16 34) 0 ≡ Ask.Local)
    × (told (completing_two no_requests 0 0 16 34) 0 Answer.Alone 9
    ≡ ended_two 0 1 no_requests
    (record { bytes = take 16 small_memory.bytes ++ empty_status ++ empty_status; text = 8; pages = one_page }) 16 34)
    ×
    (told (completing_two (table_of
    (ordinary ReceiveFromNull Finished ∷ inactive receive ∷ [])) 1 2 16 34) 0 Answer.Alone 9
    ≡ ended_two 0 1 (table_of (None ∷ inactive receive ∷ []))
    (record { bytes = take 16 small_memory.bytes ++ null_status ++ empty_status; text = 8; pages = one_page }) 16 34)

-- the statuses lie over the buffer: all bytes are written first
abbrev pub OverlapRow : Type 0
OverlapRow =
    replied (completing_two done_and_pending 1 2 16 34) (reply.AllGot (Some (message (1 ∷ 2 ∷ 3 ∷ 4 ∷ [])) ∷ []))
    ≡ ended_two 0 1 no_requests
    (record { bytes = take 16 small_memory.bytes ++ empty_status ++ status_bytes 1 7 4; text = 8; pages = one_page }) 16 34

-- no handles: complete at once, whatever the addresses
abbrev pub NoneRow : Type 0
NoneRow =
    told (holder no_requests ((2 ^ 64 - 1) ∷ 0 ∷ (2 ^ 64 - 1) ∷ []) 35) 0 Answer.Alone 9
    ≡ record (holder no_requests [] 35) { harts = behind (0 ∷ 0 ∷ (2 ^ 64 - 1) ∷ []) 35 ∷ []; clock = 9 }

-- the first check that fails: too many handles, an array outside the memory, then wrong handles, then the statuses
abbrev pub code_of_several : ℕ → ℕ → Several → Option Code
code_of_several first second s =
    first_fault
    (checks first_of_two (arrayed (handle first ++ handle second)) two_pending [] 0 (needs_of (Call.Testall s)))

abbrev pub several_refusals : List (ℕ × ℕ × Several × Option Code)
several_refusals =
    (1, 2, several 60 256 4, Some code.BadCount) ∷
    (1, 2, several 60 2 4, Some code.BadBuffer) ∷
    (1, 1, several 16 2 4, Some code.BadRequest) ∷
    (1, 3, several 16 2 0, Some code.BadRequest) ∷
    (1, 255, several 16 1 4, Some code.BadBuffer) ∷
    (1, 2, several 16 2 4, Some code.BadBuffer) ∷
    (0, 0, several 16 2 16, None) ∷
    (1, 2, several 16 2 0, None) ∷
    []

abbrev pub SeveralRefusals : Type 0
SeveralRefusals =
    map (λ row. code_of_several row.0 row.1 row.2) several_refusals ≡ map (λ row. row.3) several_refusals
