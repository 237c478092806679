-- Worked rows: what the calls of a small rank ask and are told.
use Rattle.std.specs.Prelude.{◌≡◌, ℕ, ◌-◌, ◌^◌, List, [], ◌∷◌, ◌++◌, map, replicate, take, Option, Some, None, true}
use Rattle.std.specs.Prelude.{false}
use Rattle.rv_hart.specs.State.{State}
use Rattle.rv_hart.specs.declared.state.Mode.TheVariants.{Waiting}
use Rattle.rv_hart.specs.declared.state.Wait.TheVariants.{Post}
use Rattle.mp_types.specs.declared.codes.Code.{Code}
use Rattle.mp_types.specs.declared.codes.Code.TheVariants as code
use Rattle.mp_types.specs.declared.messages.Message.{Message}
use Rattle.mp_types.specs.declared.replies.Reply.TheVariants as reply
use Rattle.mp_types.specs.declared.requests.Request.TheVariants as request
use Rattle.cl_state.specs.declared.asking.Answer.{Answer}
use Rattle.cl_state.specs.declared.asking.Ask.{Ask}
use Rattle.cl_calls.specs.declared.calls.Call.{Call}
use Rattle.cl_calls.specs.declared.calls.Receiving.{Receiving}
use Rattle.cl_calls.specs.declared.calls.Sending.{Sending}
use Rattle.mp_request.specs.Table.{no_requests}
use Rattle.cl_calls.specs.Calls.{any, no_rank}
use Rattle.cl_calls.specs.Needs.{needs_of}
use Rattle.cl_calls.specs.Checks.{checks, first_fault}
use Rattle.cl_state.specs.Rank.{Rank}
use Rattle.cl_state.specs.Rows.{calling, first_of_two, guest, one_page, send, small_memory}
use Rattle.cl_state.specs.Asked.{asked}
use Rattle.cl_state.specs.Told.{told}

-- the hart behind the call, which left these in a0 and a1
abbrev pub behind : List ℕ → ℕ → State
behind arguments number = record (calling arguments number) { pc = 8 }

-- PUT of 3 bytes at 8
abbrev pub PutRow : Type 0
PutRow =
    (asked (guest (8 ∷ 3 ∷ []) 1) 0 ≡ Ask.Local)
    × (told (guest (8 ∷ 3 ∷ []) 1) 0 Answer.Alone 9 ≡ record (guest (8 ∷ 3 ∷ []) 1) {
      harts = behind (0 ∷ 0 ∷ []) 1 ∷ [];
      out = 104 ∷ 105 ∷ 10 ∷ [];
      clock = 9;
    })

-- SEND asks the hub, and its reply ends the call
abbrev pub SendRow : Type 0
SendRow =
    (asked send 0 ≡ Ask.Hub (request.Send false 0 1 7 (105 ∷ 10 ∷ [])))
    × (told send 0 (Answer.Reply (reply.Posted 1 true)) 9
    ≡ record send { harts = behind (0 ∷ 0 ∷ 1 ∷ 7 ∷ 0 ∷ []) 16 ∷ []; clock = 9 })

-- RECV into the 4 bytes at 16, from any source with any tag, status at 32
abbrev pub receive : Rank
receive = guest (16 ∷ 4 ∷ any ∷ any ∷ 0 ∷ 32 ∷ []) 18

abbrev pub message : List ℕ → Message
message bytes = record { envelope = record { comm = 0; source = 1; tag = 7; count = 10 }; bytes = bytes }

-- what a status shows
abbrev pub status_bytes : ℕ → ℕ → ℕ → List ℕ
status_bytes source tag count = source ∷ replicate 7 0 ++ tag ∷ replicate 7 0 ++ count ∷ replicate 7 0

-- a message of 10 bytes: code 7, the first 4 written and byte 20 untouched, count 4
abbrev pub TruncatedRow : Type 0
TruncatedRow =
    (asked receive 0 ≡ Ask.Hub (request.Recv true 0 None None))
    ×
    (told receive 0 (Answer.Reply (reply.Got (message (1 ∷ 2 ∷ 3 ∷ 4 ∷ 5 ∷ 6 ∷ 7 ∷ 8 ∷ 0 ∷ 0 ∷ [])))) 9
    ≡ record receive {
      harts = behind (7 ∷ 0 ∷ any ∷ any ∷ 0 ∷ 32 ∷ []) 18 ∷ [];
      memory = record {
        bytes = take 16 small_memory.bytes ++ 1 ∷ 2 ∷ 3 ∷ 4 ∷ replicate 12 9 ++ status_bytes 1 7 4 ++ replicate 8 9;
        text = 8;
        pages = one_page;
      };
      clock = 9;
    })

-- nothing sent yet: the hart waits on its post, and each later turn polls it; NotYet leaves all but the clock
abbrev pub waiting : ℕ → Rank
waiting clock =
    record receive {
      harts = record (calling (16 ∷ 4 ∷ any ∷ any ∷ 0 ∷ 32 ∷ []) 18) { mode = Waiting (Post 1) } ∷ [];
      clock = clock;
    }

abbrev pub WaitingRow : Type 0
WaitingRow =
    (told receive 0 (Answer.Reply (reply.Posted 1 false)) 9 ≡ waiting 9)
    × (asked (waiting 9) 0 ≡ Ask.Hub (request.Collect 1))
    × (told (waiting 9) 0 (Answer.Reply reply.NotYet) 10 ≡ waiting 10)
    × (told (waiting 10) 0 (Answer.Reply (reply.Got (message []))) 12 ≡ record receive {
      harts = behind (0 ∷ 0 ∷ any ∷ any ∷ 0 ∷ 32 ∷ []) 18 ∷ [];
      memory = record { bytes = take 32 small_memory.bytes ++ status_bytes 1 7 0 ++ replicate 8 9; text = 8; pages = one_page };
      clock = 12;
    })

-- a source that is no member, and a reply of a form that isn't one for the request: code 6
abbrev pub stranger : Message
stranger = record { envelope = record { comm = 0; source = 5; tag = 7; count = 0 }; bytes = [] }

abbrev pub refused : Rank
refused = record receive { harts = behind (6 ∷ 0 ∷ any ∷ any ∷ 0 ∷ 32 ∷ []) 18 ∷ []; clock = 9 }

abbrev pub MisfitRow : Type 0
MisfitRow =
    (told receive 0 (Answer.Reply (reply.Got stranger)) 9 ≡ refused)
    × (told receive 0 (Answer.Reply reply.Done) 9 ≡ refused)
    × (told receive 0 (Answer.Reply (reply.Link 0)) 9 ≡ refused)

-- RECV from the null process: nobody is asked, no byte is written, and the status is (-2, -1, 0)
abbrev pub from_nobody : Rank
from_nobody = guest (16 ∷ 4 ∷ no_rank ∷ 7 ∷ 0 ∷ 32 ∷ []) 18

abbrev pub NullRow : Type 0
NullRow =
    (asked from_nobody 0 ≡ Ask.Local)
    × (told from_nobody 0 Answer.Alone 9 ≡ record from_nobody {
      harts = behind (0 ∷ 0 ∷ no_rank ∷ 7 ∷ 0 ∷ 32 ∷ []) 18 ∷ [];
      memory = record {
        bytes = take 32 small_memory.bytes ++ 254 ∷ replicate 15 255 ++ replicate 8 0 ++ replicate 8 9;
        text = 8;
        pages = one_page;
      };
      clock = 9;
    })

abbrev pub sending : ℕ → ℕ → ℕ → ℕ → ℕ → Sending
sending buffer count dest tag comm = record { buffer = buffer; count = count; dest = dest; tag = tag; comm = comm }

abbrev pub receiving : ℕ → ℕ → ℕ → ℕ → ℕ → Receiving
receiving buffer capacity source tag comm =
    record { buffer = buffer; capacity = capacity; source = source; tag = tag; comm = comm }

-- the checks of calls whose arguments are wrong in one way or in several
abbrev pub code_of : Call → Option Code
code_of call = first_fault (checks first_of_two small_memory no_requests [] 0 (needs_of call))

abbrev pub refusals : List (Call × Option Code)
refusals =
    (Call.Unknown, Some code.BadCall) ∷
    (Call.Send (sending 8 1 1 7 8), Some code.BadComm) ∷
    (Call.Send (sending 8 5000 9 (2 ^ 64 - 5) 8), Some code.BadComm) ∷
    (Call.Send (sending 8 1 2 7 0), Some code.BadRank) ∷
    (Call.Send (sending 8 1 any 7 0), Some code.BadRank) ∷
    (Call.Send (sending 8 1 1 any 0), Some code.BadTag) ∷
    (Call.Send (sending 8 1 1 32768 0), Some code.BadTag) ∷
    (Call.Send (sending 8 4097 1 7 0), Some code.BadCount) ∷
    (Call.Send (sending 63 2 1 7 0), Some code.BadBuffer) ∷
    (Call.Send (sending (2 ^ 64 - 1) 0 1 7 0), None) ∷
    (Call.Send (sending 8 1 no_rank 7 0), None) ∷
    (Call.Recv (receiving 8 4 (2 ^ 64 - 3) 7 0) 0, Some code.BadRank) ∷
    (Call.Recv (receiving 8 4 1 (2 ^ 64 - 2) 0) 0, Some code.BadTag) ∷
    (Call.Recv (receiving 0 4 1 7 0) 0, Some code.BadBuffer) ∷
    (Call.Recv (receiving 8 4 1 7 0) 58, Some code.BadBuffer) ∷
    (Call.Recv (receiving 8 4 any any 0) 40, None) ∷
    (Call.Put 8 56, None) ∷
    (Call.Rank 1, Some code.BadComm) ∷
    (Call.Exit 3, None) ∷
    []

abbrev pub RefusalRows : Type 0
RefusalRows = map (λ row. code_of row.0) refusals ≡ map (λ row. row.1) refusals
