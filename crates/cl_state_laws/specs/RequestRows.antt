-- Worked rows of calls that open, complete, start and free requests, and of probes.
use Rattle.std.specs.Prelude.{◌≡◌, ℕ, ◌-◌, ◌^◌, List, [], ◌∷◌, ◌++◌, length, map, replicate, take, Option, Some, None}
use Rattle.std.specs.Prelude.{true, false}
use Rattle.rv_hart.specs.declared.state.Mode.TheVariants.{Waiting}
use Rattle.rv_hart.specs.declared.state.Wait.TheVariants.{Post, Again}
use Rattle.mp_types.specs.declared.codes.Code.{Code}
use Rattle.mp_types.specs.declared.codes.Code.TheVariants as code
use Rattle.mp_types.specs.declared.messages.Envelope.{Envelope}
use Rattle.mp_types.specs.declared.replies.Reply.{Reply}
use Rattle.mp_types.specs.declared.replies.Reply.TheVariants as reply
use Rattle.mp_types.specs.declared.requests.Request.TheVariants as request
use Rattle.mp_request.specs.declared.entries.OpenRequest.{OpenRequest}
use Rattle.mp_request.specs.declared.entries.Progress.{Progress}
use Rattle.mp_request.specs.declared.entries.Progress.TheVariants.{Finished, Sent, OnPost}
use Rattle.mp_request.specs.declared.entries.State.TheVariants.{Ordinary, Inactive, Active}
use Rattle.mp_request.specs.declared.entries.Transfer.{Transfer}
use Rattle.mp_request.specs.declared.entries.Transfer.TheVariants.{SendToNull, ReceiveFromNull, Send, Receive}
use Rattle.mp_request.specs.declared.entries.Transfer.TheVariants.{ReceiveClaimed}
use Rattle.mp_request.specs.Table.{Table, no_requests}
use Rattle.cl_calls.specs.declared.calls.Call.{Call}
use Rattle.cl_calls.specs.declared.calls.Completing.{Completing}
use Rattle.cl_calls.specs.Calls.{any, no_rank, no_message}
use Rattle.cl_calls.specs.Needs.{needs_of}
use Rattle.cl_calls.specs.Checks.{checks, first_fault}
use Rattle.cl_state.specs.declared.asking.Answer.{Answer}
use Rattle.cl_state.specs.declared.asking.Ask.{Ask}
use Rattle.cl_state.specs.Rank.{Rank}
use Rattle.cl_state.specs.Asked.{asked}
use Rattle.cl_state.specs.Told.{told}
use Rattle.cl_state.specs.Rows.{calling, first_of_two, guest, one_page, small_memory}
use Rattle.cl_state_laws.specs.CallRows.{behind, message, sending, status_bytes}

-- what the first handles name; the others are free
abbrev pub table_of : List (Option OpenRequest) → Table
table_of slots = slots ++ replicate (255 - length slots) None

abbrev pub holder : Table → List ℕ → ℕ → Rank
holder table arguments number = record (guest arguments number) { requests = table }

-- the call ended at clock 9 with these in a0 and a1, and changed nothing else
abbrev pub ended_with : ℕ → ℕ → Table → List ℕ → ℕ → Rank
ended_with c value table rest number =
    record (holder table [] number) { harts = behind (c ∷ value ∷ rest) number ∷ []; clock = 9 }

-- 4 bytes at 16 from any source with any tag; the 2 bytes at 9 to rank 1, tag 7
abbrev pub receive : Transfer
receive = Receive 16 4 None None 0

abbrev pub send : Transfer
send = Send false 9 2 1 7 0

abbrev pub ordinary : Transfer → Progress → Option OpenRequest
ordinary transfer progress = Some (record { transfer = transfer; state = Ordinary progress })

abbrev pub inactive : Transfer → Option OpenRequest
inactive transfer = Some (record { transfer = transfer; state = Inactive })

abbrev pub active : Transfer → Progress → Option OpenRequest
active transfer progress = Some (record { transfer = transfer; state = Active progress })

abbrev pub replied : Rank → Reply → Rank
replied rank r = told rank 0 (Answer.Reply r) 9

-- ---- requests are opened

-- IRECV into the 4 bytes at 16
abbrev pub irecv : Table → Rank
irecv table = holder table (16 ∷ 4 ∷ any ∷ any ∷ 0 ∷ []) 21

-- ISEND (19) and ISSEND (20) of the 2 bytes at 9
abbrev pub isend : Table → ℕ → Rank
isend table number = holder table (9 ∷ 2 ∷ 1 ∷ 7 ∷ 0 ∷ []) number

-- the lowest free handle is given: 3 where 1, 2 and 4 are open
abbrev pub three : Option OpenRequest → Table
three third = table_of (ordinary send (Sent 1) ∷ inactive send ∷ third ∷ ordinary receive (OnPost 2) ∷ [])

abbrev pub OpenRow : Type 0
OpenRow =
    (asked (irecv (three None)) 0 ≡ Ask.Hub (request.Recv false 0 None None))
    × (replied (irecv (three None)) (reply.Posted 5 false)
    ≡ ended_with 0 3 (three (ordinary receive (OnPost 5))) (any ∷ any ∷ 0 ∷ []) 21)
    × (asked (isend (three None) 19) 0 ≡ Ask.Hub (request.Send false 0 1 7 (105 ∷ 10 ∷ [])))
    × (replied (isend (three None) 19) (reply.Posted 5 true)
    ≡ ended_with 0 3 (three (ordinary send (Sent 5))) (1 ∷ 7 ∷ 0 ∷ []) 19)
    × (asked (isend (three None) 20) 0 ≡ Ask.Hub (request.Send true 0 1 7 (105 ∷ 10 ∷ [])))
    × (replied (isend (three None) 20) (reply.Posted 5 false)
    ≡ ended_with 0 3 (three (ordinary (Send true 9 2 1 7 0) (OnPost 5))) (1 ∷ 7 ∷ 0 ∷ []) 20)
    × (replied (isend (three None) 20) (reply.Posted 5 true)
    ≡ ended_with 0 3 (three (ordinary (Send true 9 2 1 7 0) Finished)) (1 ∷ 7 ∷ 0 ∷ []) 20)
    × (replied (isend (three None) 20) (reply.Code code.Full) ≡ ended_with 8 0 (three None) (1 ∷ 7 ∷ 0 ∷ []) 20)

-- with 255 handles open no request is opened: code 8, and nobody is asked
abbrev pub full : Table
full = replicate 255 (ordinary send (Sent 1))

abbrev pub FullRow : Type 0
FullRow =
    (asked (irecv full) 0 ≡ Ask.Local)
    × (told (irecv full) 0 Answer.Alone 9 ≡ ended_with 8 0 full (any ∷ any ∷ 0 ∷ []) 21)

-- ---- a test and a wait

-- TEST (22) and WAIT (23) of a handle, status at 32
abbrev pub completing : Table → ℕ → ℕ → Rank
completing table handle number = holder table (handle ∷ 32 ∷ []) number

abbrev pub empty_status : List ℕ
empty_status = replicate 16 255 ++ replicate 8 0

-- code 0, flag 1, and the empty status at 32
abbrev pub complete_empty : Table → Rank
complete_empty table = record (ended_with 0 1 table [] 22) {
  memory = record { bytes = take 32 small_memory.bytes ++ empty_status ++ replicate 8 9; text = 8; pages = one_page };
}

-- of handle 0 and of an inactive request: complete at once; a completed standard send frees its handle
abbrev pub one : Option OpenRequest → Table
one request = table_of (request ∷ [])

abbrev pub TestRow : Type 0
TestRow =
    (asked (completing no_requests 0 22) 0 ≡ Ask.Local)
    × (told (completing no_requests 0 22) 0 Answer.Alone 9 ≡ complete_empty no_requests)
    × (asked (completing (one (inactive receive)) 1 22) 0 ≡ Ask.Local)
    × (told (completing (one (inactive receive)) 1 22) 0 Answer.Alone 9 ≡ complete_empty (one (inactive receive)))
    × (asked (completing (one (ordinary send (Sent 1))) 1 22) 0 ≡ Ask.Local)
    × (told (completing (one (ordinary send (Sent 1))) 1 22) 0 Answer.Alone 9 ≡ complete_empty no_requests)

-- a receive is asked for its message: without one flag 0, and
-- nothing is written; with one flag 1, and the handle is free
abbrev pub on_post : Table
on_post = one (ordinary receive (OnPost 3))

-- the message's first 4 bytes at 16, its status at 32
abbrev pub test_received : ℕ → ℕ → Rank
test_received c value = record (ended_with c value no_requests [] 22) {
  memory = record {
    bytes = take 16 small_memory.bytes ++ 1 ∷ 2 ∷ 3 ∷ 4 ∷ replicate 12 9 ++ status_bytes 1 7 4 ++ replicate 8 9;
    text = 8;
    pages = one_page;
  };
}

abbrev pub ReceiveRow : Type 0
ReceiveRow =
    (asked (completing on_post 1 22) 0 ≡ Ask.Hub (request.Collect 3))
    × (replied (completing on_post 1 22) reply.NotYet ≡ ended_with 0 0 on_post [] 22)
    × (replied (completing on_post 1 22) (reply.Got (message (1 ∷ 2 ∷ 3 ∷ 4 ∷ []))) ≡ test_received 0 1)
    × (replied (completing on_post 1 22) (reply.Got (message (1 ∷ 2 ∷ 3 ∷ 4 ∷ 5 ∷ []))) ≡ test_received 7 1)
    × (replied (completing on_post 1 22) reply.Done ≡ ended_with 6 0 on_post [] 22)

-- a wait makes its call anew, whatever its registers then hold: another handle, and a status that it may not write
abbrev pub waits_with : List ℕ → Rank
waits_with arguments =
    record (holder on_post arguments 23) { harts = record (calling arguments 23) { mode = Waiting Again } ∷ [] }

abbrev pub WaitRow : Type 0
WaitRow =
    (replied (completing on_post 1 23) reply.NotYet ≡ record (waits_with (1 ∷ 32 ∷ [])) { clock = 9 })
    × (asked (waits_with (1 ∷ 32 ∷ [])) 0 ≡ Ask.Hub (request.Collect 3))
    × (asked (waits_with (0 ∷ 32 ∷ [])) 0 ≡ Ask.Local)
    × (told (waits_with (2 ∷ 32 ∷ [])) 0 Answer.Alone 9 ≡ ended_with 6 0 on_post [] 23)
    × (told (waits_with (1 ∷ 4 ∷ [])) 0 Answer.Alone 9 ≡ ended_with 1 0 on_post [] 23)

-- ---- synchronous sends

abbrev pub ssend_waits : Rank
ssend_waits =
    record
    (isend no_requests 17) {
      harts = record (calling (9 ∷ 2 ∷ 1 ∷ 7 ∷ 0 ∷ []) 17) { mode = Waiting (Post 5) } ∷ [];
      clock = 9;
    }

-- SSEND waits on its post until it is paired, and asks whether it is
abbrev pub SsendRow : Type 0
SsendRow =
    (asked (isend no_requests 17) 0 ≡ Ask.Hub (request.Send true 0 1 7 (105 ∷ 10 ∷ [])))
    × (replied (isend no_requests 17) (reply.Posted 5 true) ≡ ended_with 0 0 no_requests (1 ∷ 7 ∷ 0 ∷ []) 17)
    × (replied (isend no_requests 17) (reply.Posted 5 false) ≡ ssend_waits)
    × (asked ssend_waits 0 ≡ Ask.Hub (request.Finished 5))
    × (replied ssend_waits reply.NotYet ≡ ssend_waits)
    × (replied ssend_waits reply.Done ≡ ended_with 0 0 no_requests (1 ∷ 7 ∷ 0 ∷ []) 17)

-- ---- probes and claimed messages

-- IPROBE (24), PROBE (25), IMPROBE (26) and MPROBE (27) of a source, status at 32
abbrev pub probing : ℕ → ℕ → Rank
probing source number = guest (source ∷ any ∷ 0 ∷ 32 ∷ []) number

abbrev pub envelope : Envelope
envelope = (message []).envelope

-- what a receive would give, with the message's whole count
abbrev pub probed : ℕ → List ℕ → ℕ → Rank
probed value status number = record (ended_with 0 value no_requests (0 ∷ 32 ∷ []) number) {
  memory = record { bytes = take 32 small_memory.bytes ++ status ++ replicate 8 9; text = 8; pages = one_page };
}

abbrev pub null_status : List ℕ
null_status = 254 ∷ replicate 15 255 ++ replicate 8 0

abbrev pub ProbeRow : Type 0
ProbeRow =
    (asked (probing any 24) 0 ≡ Ask.Hub (request.Probe 0 None None))
    × (replied (probing any 24) reply.NotYet ≡ ended_with 0 0 no_requests (0 ∷ 32 ∷ []) 24)
    × (replied (probing any 24) (reply.Seen envelope) ≡ probed 1 (status_bytes 1 7 10) 24)
    × (replied (probing any 25) (reply.Seen envelope) ≡ probed 0 (status_bytes 1 7 10) 25)
    × (asked (probing any 26) 0 ≡ Ask.Hub (request.Claim 0 None None))
    × (replied (probing any 26) reply.NotYet ≡ ended_with 0 0 no_requests (0 ∷ 32 ∷ []) 26)
    × (replied (probing any 26) (reply.Held 5 envelope) ≡ probed 5 (status_bytes 1 7 10) 26)
    × (replied (probing any 27) (reply.Held 5 envelope) ≡ probed 5 (status_bytes 1 7 10) 27)

-- nothing comes from the null process, and that is known at once; its message is the handle -2
abbrev pub NullProbeRow : Type 0
NullProbeRow =
    (asked (probing no_rank 24) 0 ≡ Ask.Local)
    × (told (probing no_rank 24) 0 Answer.Alone 9 ≡ probed 1 null_status 24)
    × (told (probing no_rank 25) 0 Answer.Alone 9 ≡ probed 0 null_status 25)
    × (told (probing no_rank 26) 0 Answer.Alone 9 ≡ probed no_message null_status 26)
    × (asked (guest (16 ∷ 4 ∷ no_message ∷ []) 28) 0 ≡ Ask.Local)
    × (asked (guest (16 ∷ 4 ∷ no_message ∷ 32 ∷ []) 29) 0 ≡ Ask.Local)
    × (told (guest (16 ∷ 4 ∷ no_message ∷ []) 28) 0 Answer.Alone 9
    ≡ ended_with 0 1 (one (ordinary ReceiveFromNull Finished)) (no_message ∷ []) 28)

-- IMRECV of a claimed message gives a request; asked again, the hub answers code 14
abbrev pub ClaimedRow : Type 0
ClaimedRow =
    (asked (guest (16 ∷ 4 ∷ 5 ∷ []) 28) 0 ≡ Ask.Hub (request.Claimed false 5))
    × (replied (guest (16 ∷ 4 ∷ 5 ∷ []) 28) (reply.Posted 5 false)
    ≡ ended_with 0 1 (one (ordinary (ReceiveClaimed 16 4) (OnPost 5))) (5 ∷ []) 28)
    × (asked (completing (one (ordinary (ReceiveClaimed 16 4) (OnPost 5))) 1 22) 0 ≡ Ask.Hub (request.Collect 5))
    ×
    (replied (completing (one (ordinary (ReceiveClaimed 16 4) (OnPost 5))) 1 22) (reply.Got (message
    (1 ∷ 2 ∷ 3 ∷ 4 ∷ [])))
    ≡ test_received 0 1)
    × (replied (guest (16 ∷ 4 ∷ 5 ∷ []) 28) (reply.Code code.BadMessage) ≡ ended_with 14 0 no_requests (5 ∷ []) 28)
    × (asked (guest (16 ∷ 4 ∷ 0 ∷ 0 ∷ []) 29) 0 ≡ Ask.Hub (request.Claimed true 0))

-- ---- persistent requests

-- START (32) and REQUEST_FREE (33) of handle 1
abbrev pub starting : Option OpenRequest → ℕ → Rank
starting request number = holder (one request) (1 ∷ []) number

-- made inactive; started by its post, with the bytes that then stand in its buffer; a refused start leaves it inactive
abbrev pub PersistentRow : Type 0
PersistentRow =
    (asked (isend no_requests 30) 0 ≡ Ask.Local)
    × (told (isend no_requests 30) 0 Answer.Alone 9 ≡ ended_with 0 1 (one (inactive send)) (1 ∷ 7 ∷ 0 ∷ []) 30)
    × (asked (starting (inactive send) 32) 0 ≡ Ask.Hub (request.Send false 0 1 7 (105 ∷ 10 ∷ [])))
    × (replied (starting (inactive send) 32) (reply.Posted 5 true) ≡ ended_with 0 0 (one (active send (Sent 5))) [] 32)
    ×
    (replied (starting (inactive receive) 32) (reply.Posted 5 false)
    ≡ ended_with 0 0 (one (active receive (OnPost 5))) [] 32)
    × (replied (starting (inactive send) 32) (reply.Code code.Full) ≡ ended_with 8 0 (one (inactive send)) [] 32)
    × (asked (starting (inactive SendToNull) 32) 0 ≡ Ask.Local)
    ×
    (told (starting (inactive SendToNull) 32) 0 Answer.Alone 9
    ≡ ended_with 0 0 (one (active SendToNull Finished)) [] 32)
    × (told (completing (one (active send (Sent 5))) 1 22) 0 Answer.Alone 9 ≡ complete_empty (one (inactive send)))
    × (told (starting (inactive send) 33) 0 Answer.Alone 9 ≡ ended_with 0 0 no_requests [] 33)

-- ---- the first check that fails, of a rank whose handle 1 is an ordinary receive, 2 an inactive one and 3 an active
-- one

abbrev pub some_requests : Table
some_requests = table_of (ordinary receive (OnPost 3) ∷ inactive receive ∷ active receive (OnPost 4) ∷ [])

abbrev pub code_with : Table → Call → Option Code
code_with table call = first_fault (checks first_of_two small_memory table [] 0 (needs_of call))

abbrev pub of_handle : ℕ → ℕ → Completing
of_handle handle status = record { handle = handle; status = status }

abbrev pub handle_refusals : List (Call × Option Code)
handle_refusals =
    (Call.Test (of_handle 4 0), Some code.BadRequest) ∷
    (Call.Test (of_handle 256 0), Some code.BadRequest) ∷
    (Call.Test (of_handle (2 ^ 64 - 1) 4), Some code.BadRequest) ∷
    (Call.Test (of_handle 0 4), Some code.BadBuffer) ∷
    (Call.Wait (of_handle 2 4), Some code.BadBuffer) ∷
    (Call.Test (of_handle 1 40), None) ∷
    (Call.Start 0, Some code.BadRequest) ∷
    (Call.Start 1, Some code.BadRequest) ∷
    (Call.Start 2, None) ∷
    (Call.Start 3, Some code.Active) ∷
    (Call.RequestFree 0, Some code.BadRequest) ∷
    (Call.RequestFree 4, Some code.BadRequest) ∷
    (Call.RequestFree 1, Some code.Active) ∷
    (Call.RequestFree 2, None) ∷
    (Call.RequestFree 3, Some code.Active) ∷
    (Call.Isend (sending 8 4097 1 7 0), Some code.BadCount) ∷
    (Call.Isend (sending 8 1 1 7 0), None) ∷
    []

abbrev pub full_refusals : List (Call × Option Code)
full_refusals =
    (Call.Isend (sending 63 2 1 7 0), Some code.BadBuffer) ∷
    (Call.Isend (sending 8 1 1 7 0), Some code.Full) ∷
    (Call.SendInit (sending 8 1 no_rank 7 0), Some code.Full) ∷
    (Call.Ssend (sending 8 1 1 7 0), None) ∷
    []

abbrev pub HandleRows : Type 0
HandleRows =
    (map (λ row. code_with some_requests row.0) handle_refusals ≡ map (λ row. row.1) handle_refusals)
    × (map (λ row. code_with full row.0) full_refusals ≡ map (λ row. row.1) full_refusals)
