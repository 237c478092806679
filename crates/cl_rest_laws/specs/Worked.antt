-- Worked rows: runs to ranks that need buffers, runs to ranks that don't, and sends for which no rank rests.
use Rattle.std.specs.Prelude.{ℕ, ◌+◌, ◌-◌, List, [], ◌∷◌, ◌++◌, ◌≡◌, replicate, true, false}
use Rattle.rv_memory.specs.Memory.{Memory}
use Rattle.mp_types.specs.declared.replies.Reply.TheVariants as reply
use Rattle.cl_trace.specs.declared.events.Kind.{Kind}
use Rattle.cl_state.specs.Rank.{Rank}
use Rattle.cl_state.specs.Rows.{one_page}
use Rattle.cl_state_laws.specs.SeveralRows.{handle}
use Rattle.cl_machine.specs.declared.steps.Step.{Step}
use Rattle.cl_machine.specs.Cluster.{Cluster, IsRun}
use Rattle.cl_machine.specs.Worked.{sent_message, step}
use Rattle.cl_deadlock_laws.specs.Stuck.{AreStuck}
use Rattle.cl_deadlock_laws.specs.Worked.{at_call, both, ended}
use Rattle.cl_rest_laws.specs.Buffering.{NeedBuffers}
use Rattle.cl_rest_laws.specs.Rests.{buffered_word, rests}

-- ---- the guests: ranks 0 and 1 of two, each at its first call

-- 16 bytes of text: nothing, ECALL, ADDI of -1 into a1, and ECALL again. Then 48 bytes of data that begin with "hi\n"
abbrev pub two_calls : Memory
two_calls = record {
  bytes =
      0 ∷ 0 ∷ 0 ∷ 0 ∷ 0x73 ∷ 0 ∷ 0 ∷ 0 ∷ 0x93 ∷ 0x05 ∷ 0xf0 ∷ 0xff ∷ 0x73 ∷ 0 ∷ 0 ∷ 0 ∷ 104 ∷ 105 ∷ 10
      ∷ replicate 45 9;
  text = 16;
  pages = one_page;
}

abbrev pub calls_twice : ℕ → List ℕ → ℕ → Rank
calls_twice rank arguments number = record (at_call rank arguments number) { memory = two_calls }

-- SEND and SSEND of the 2 bytes at 17 with tag 7, and a SEND with this word in a5
abbrev pub send : ℕ → ℕ → Rank
send rank dest = calls_twice rank (17 ∷ 2 ∷ dest ∷ 7 ∷ 0 ∷ []) 16

abbrev pub ssend : ℕ → ℕ → Rank
ssend rank dest = calls_twice rank (17 ∷ 2 ∷ dest ∷ 7 ∷ 0 ∷ []) 17

abbrev pub send_saying : ℕ → ℕ → ℕ → Rank
send_saying word rank dest = calls_twice rank (17 ∷ 2 ∷ dest ∷ 7 ∷ 0 ∷ word ∷ []) 16

-- RECV and IRECV of 4 bytes with tag 7 to 24
abbrev pub recv : ℕ → ℕ → Rank
recv rank source = calls_twice rank (24 ∷ 4 ∷ source ∷ 7 ∷ 0 ∷ 0 ∷ []) 18

abbrev pub irecv : ℕ → ℕ → Rank
irecv rank source = calls_twice rank (24 ∷ 4 ∷ source ∷ 7 ∷ 0 ∷ []) 21

-- ---- where steps lead

-- these steps lead to a cluster of which this holds
abbrev pub LeadTo : (Cluster → Type 0) → Cluster → List Step → Type 0
LeadTo Holds start steps = (end : Cluster) × IsRun start steps end × Holds end

-- in which these ranks need buffers
abbrev pub GetToNeedBuffers : List ℕ → Cluster → List Step → Type 0
GetToNeedBuffers ranks = LeadTo (NeedBuffers ranks)

-- in which they don't
abbrev pub GetToNeedNoBuffers : List ℕ → Cluster → List Step → Type 0
GetToNeedNoBuffers ranks = LeadTo (λ c. ¬ NeedBuffers ranks c)

-- in which rank 0 rests
abbrev pub GetToRest : Cluster → List Step → Type 0
GetToRest = LeadTo (λ c. rests c 0 0 ≡ true)

-- in which it doesn't
abbrev pub GetToNoRest : Cluster → List Step → Type 0
GetToNoRest = LeadTo (λ c. rests c 0 0 ≡ false)

-- ---- ranks that need buffers

-- rank 0's send is the first post, and complete at once
abbrev pub sends : List Step
sends = step 0 9 (Kind.Hub (reply.Posted 1 true)) ∷ []

-- and then rank 1's
abbrev pub both_send : List Step
both_send = sends ++ step 1 10 (Kind.Hub (reply.Posted 2 true)) ∷ []

-- each sends to the other
abbrev pub SendFirst : Type 0
SendFirst = GetToNeedBuffers (0 ∷ 1 ∷ []) (both (send 0 1) (send 1 0)) both_send

-- once rank 0 went on behind its send they don't. So a search that lets a resting rank go first may miss ranks that need
-- buffers
abbrev pub OneGoesOn : Type 0
OneGoesOn =
    GetToNeedNoBuffers (0 ∷ 1 ∷ []) (both (send 0 1) (send 1 0)) (both_send ++ step 0 10 Kind.Plain ∷ [])

-- rank 0 alone doesn't need buffers: the other could receive
abbrev pub OneAlone : Type 0
OneAlone = GetToNeedNoBuffers (0 ∷ []) (both (send 0 1) (send 1 0)) both_send

-- a rank that sends to itself needs buffers alone, whatever the other does
abbrev pub ToItself : Type 0
ToItself = GetToNeedBuffers (0 ∷ []) (both (send 0 0) (recv 1 0)) sends

-- a rank that sends to one that has ended needs buffers, together with that one
abbrev pub ToEnded : Type 0
ToEnded = GetToNeedBuffers (0 ∷ 1 ∷ []) (both (send 0 1) (ended (recv 1 0))) sends

-- ---- ranks that rest until their message is received

-- rank 0 rests where rank 1 didn't receive yet
abbrev pub Unreceived : Type 0
Unreceived = GetToRest (both (send 0 1) (recv 1 0)) sends

-- it doesn't once rank 1 received
abbrev pub Received : Type 0
Received =
    GetToNoRest (both (send 0 1) (recv 1 0)) (sends ++ step 1 10 (Kind.Hub (reply.Got sent_message)) ∷ [])

-- nor where the receive was posted before the send: by a RECV, which waits, or by an IRECV
abbrev pub receive_first : List Step
receive_first = step 1 9 (Kind.Hub (reply.Posted 1 false)) ∷ step 0 10 (Kind.Hub (reply.Posted 2 true)) ∷ []

abbrev pub ReceiveWaits : Type 0
ReceiveWaits = GetToNoRest (both (send 0 1) (recv 1 0)) receive_first

abbrev pub ReceivePosted : Type 0
ReceivePosted = GetToNoRest (both (send 0 1) (irecv 1 0)) receive_first

-- ---- messages that a matched probe has

-- 24 bytes of text: nothing, ECALL, the message from a1 to a2, 24 in a0, the number of MRECV in a7, and ECALL again. Then 40 bytes
-- of data
abbrev pub probe_and_receive : Memory
probe_and_receive = record {
  bytes =
      0 ∷ 0 ∷ 0 ∷ 0 ∷ 0x73 ∷ 0 ∷ 0 ∷ 0 ∷ 0x13 ∷ 0x86 ∷ 0x05 ∷ 0 ∷ 0x13 ∷ 0x05 ∷ 0x80 ∷ 0x01 ∷ 0x93 ∷ 0x08 ∷ 0xd0 ∷ 0x01 ∷ 0x73
      ∷ 0 ∷ 0 ∷ 0 ∷ replicate 40 9;
  text = 24;
  pages = one_page;
}

-- MPROBE of any message with tag 7, and then its MRECV to 24. The message has number 2, which is left in a1: so the MRECV is of 2
-- bytes
abbrev pub mprobe : ℕ → ℕ → Rank
mprobe rank source = record (at_call rank (source ∷ 7 ∷ 0 ∷ 0 ∷ []) 27) { memory = probe_and_receive }

abbrev pub claims : List Step
claims = sends ++ step 1 10 (Kind.Hub (reply.Held 2 sent_message.envelope)) ∷ []

-- rank 0 rests while a matched probe alone has its message
abbrev pub Claimed : Type 0
Claimed = GetToRest (both (send 0 1) (mprobe 1 0)) claims

-- it doesn't once MRECV received it
abbrev pub ClaimReceived : Type 0
ClaimReceived =
    GetToNoRest (both (send 0 1) (mprobe 1 0))
    (claims ++ step 1 11 Kind.Plain ∷ step 1 12 Kind.Plain ∷ step 1 13 Kind.Plain
    ∷ step 1 14 (Kind.Hub (reply.Got sent_message)) ∷ [])

-- ---- sends behind which no rank rests

-- a SEND that says that it is buffered
abbrev pub SaysBuffered : Type 0
SaysBuffered = GetToNoRest (both (send_saying buffered_word 0 1) (recv 1 0)) sends

-- another word in a5 doesn't say so
abbrev pub SaysOther : Type 0
SaysOther = GetToRest (both (send_saying (buffered_word - 1) 0 1) (recv 1 0)) sends

-- an SSEND waits by itself: its rank is stuck, and doesn't rest
abbrev pub WaitsInSsend : Type 0
WaitsInSsend =
    LeadTo (λ c. (rests c 0 0 ≡ false) × AreStuck (0 ∷ 1 ∷ []) c) (both (ssend 0 1) (ended (recv 1 0)))
    (step 0 9 (Kind.Hub (reply.Posted 1 false)) ∷ [])

-- a second SEND, of 2^64 - 1 bytes, is refused: behind it the rank doesn't rest, though nobody received its first message
abbrev pub IsRefused : Type 0
IsRefused =
    GetToNoRest (both (send 0 1) (recv 1 0)) (sends ++ step 0 10 Kind.Plain ∷ step 0 11 Kind.Local ∷ [])

-- ---- sends that a call is to complete

-- 24 bytes of text: nothing, ECALL, the handle from a1 to a0, no status in a1, the number of WAIT in a7, and ECALL again.
-- Then 40 bytes of data that begin with "hi\n"
abbrev pub call_and_wait : Memory
call_and_wait = record {
  bytes =
      0 ∷ 0 ∷ 0 ∷ 0 ∷ 0x73 ∷ 0 ∷ 0 ∷ 0 ∷ 0x13 ∷ 0x85 ∷ 0x05 ∷ 0 ∷ 0x93 ∷ 0x05 ∷ 0 ∷ 0 ∷ 0x93 ∷ 0x08 ∷ 0x70 ∷ 0x01 ∷ 0x73
      ∷ 0 ∷ 0 ∷ 0 ∷ 104 ∷ 105 ∷ 10 ∷ replicate 37 9;
  text = 24;
  pages = one_page;
}

-- ISEND and ISSEND of the 2 bytes at 25 with tag 7, and an ISEND with this word in a5, which stays there
abbrev pub isend : ℕ → ℕ → Rank
isend rank dest = record (at_call rank (25 ∷ 2 ∷ dest ∷ 7 ∷ 0 ∷ []) 19) { memory = call_and_wait }

abbrev pub issend : ℕ → ℕ → Rank
issend rank dest = record (at_call rank (25 ∷ 2 ∷ dest ∷ 7 ∷ 0 ∷ []) 20) { memory = call_and_wait }

abbrev pub isend_saying : ℕ → ℕ → ℕ → Rank
isend_saying word rank dest = record (at_call rank (25 ∷ 2 ∷ dest ∷ 7 ∷ 0 ∷ word ∷ []) 19) { memory = call_and_wait }

-- a rank comes to its WAIT by three instructions, the first at this stamp
abbrev pub comes_to_wait : ℕ → ℕ → List Step
comes_to_wait rank stamp =
    step rank stamp Kind.Plain ∷ step rank (1 + stamp) Kind.Plain ∷ step rank (2 + stamp) Kind.Plain ∷ []

-- rank 0's ISEND is the first post, and then it stands at the WAIT for it
abbrev pub sends_and_waits : List Step
sends_and_waits = sends ++ comes_to_wait 0 10

-- it rests there where rank 1 didn't receive yet
abbrev pub UnreceivedAtWait : Type 0
UnreceivedAtWait = GetToRest (both (isend 0 1) (recv 1 0)) sends_and_waits

-- it doesn't once rank 1 received
abbrev pub ReceivedAtWait : Type 0
ReceivedAtWait =
    GetToNoRest (both (isend 0 1) (recv 1 0)) (sends_and_waits ++ step 1 10 (Kind.Hub (reply.Got sent_message)) ∷ [])

-- two ranks need buffers that each wait for an ISEND to the other
abbrev pub BothWait : Type 0
BothWait =
    GetToNeedBuffers (0 ∷ 1 ∷ []) (both (isend 0 1) (isend 1 0)) (both_send ++ comes_to_wait 0 10 ++ comes_to_wait 1 11)

-- a WAIT that says that what it waits for is buffered
abbrev pub SaysBufferedAtWait : Type 0
SaysBufferedAtWait = GetToNoRest (both (isend_saying buffered_word 0 1) (recv 1 0)) sends_and_waits

-- 40 bytes of text: nothing, ECALL, 57 in a0, 2 in a1, ECALL, the address and the length of the array in a0 and a1, no
-- statuses in a2, the number of WAITALL in a7, and ECALL. Then the array, of the handles 1 and 2, at 40, and 8 bytes that
-- begin with "hi\n"
abbrev pub two_calls_and_waitall : Memory
two_calls_and_waitall = record {
  bytes =
      0 ∷ 0 ∷ 0 ∷ 0 ∷ 0x73 ∷ 0 ∷ 0 ∷ 0 ∷ 0x13 ∷ 0x05 ∷ 0x90 ∷ 0x03 ∷ 0x93 ∷ 0x05 ∷ 0x20 ∷ 0 ∷ 0x73 ∷ 0 ∷ 0 ∷ 0 ∷ 0x13
      ∷ 0x05 ∷ 0x80 ∷ 0x02 ∷ 0x93 ∷ 0x05 ∷ 0x20 ∷ 0 ∷ 0x13 ∷ 0x06 ∷ 0 ∷ 0 ∷ 0x93 ∷ 0x08 ∷ 0x30 ∷ 0x02 ∷ 0x73 ∷ 0 ∷ 0 ∷ 0
      ∷ handle 1 ++ handle 2 ++ 104 ∷ 105 ∷ 10 ∷ replicate 5 9;
  text = 40;
  pages = one_page;
}

-- two ISENDs of the 2 bytes at 57 with tag 7
abbrev pub isend_twice : ℕ → ℕ → Rank
isend_twice rank dest = record (at_call rank (57 ∷ 2 ∷ dest ∷ 7 ∷ 0 ∷ []) 19) { memory = two_calls_and_waitall }

-- a rank rests at its WAITALL of two ISENDs where one of them was received
abbrev pub OneOfTwo : Type 0
OneOfTwo =
    GetToRest (both (isend_twice 0 1) (recv 1 0))
    (sends ++ step 0 10 Kind.Plain ∷ step 0 11 Kind.Plain ∷ step 0 12 (Kind.Hub (reply.Posted 2 true))
    ∷ step 0 13 Kind.Plain ∷ step 0 14 Kind.Plain ∷ step 0 15 Kind.Plain ∷ step 0 16 Kind.Plain
    ∷ step 1 13 (Kind.Hub (reply.Got sent_message)) ∷ [])

-- at the WAIT for an ISSEND a rank doesn't rest: it waits by itself
abbrev pub SyncAtWait : Type 0
SyncAtWait =
    GetToNoRest (both (issend 0 1) (recv 1 0)) (step 0 9 (Kind.Hub (reply.Posted 1 false)) ∷ comes_to_wait 0 10)

-- ---- a WAITALL of an ISEND and of an IRECV

-- 40 bytes of text: nothing, ECALL, 57 in a0, the number of IRECV in a7, ECALL, the address of the array in a0, no statuses in a2, the
-- number of WAITALL in a7, ECALL, and nothing. Then the array, of the handles 1 and 2, at 40, and 8 bytes that begin with "hi\n".
-- What a call tells in a1 is left there: the handle 1 is the capacity of the IRECV, and the handle 2 the length of the array
abbrev pub isend_irecv_and_waitall : Memory
isend_irecv_and_waitall = record {
  bytes =
      0 ∷ 0 ∷ 0 ∷ 0 ∷ 0x73 ∷ 0 ∷ 0 ∷ 0 ∷ 0x13 ∷ 0x05 ∷ 0x90 ∷ 0x03 ∷ 0x93 ∷ 0x08 ∷ 0x50 ∷ 0x01 ∷ 0x73 ∷ 0 ∷ 0 ∷ 0 ∷ 0x13
      ∷ 0x05 ∷ 0x80 ∷ 0x02 ∷ 0x13 ∷ 0x06 ∷ 0 ∷ 0 ∷ 0x93 ∷ 0x08 ∷ 0x30 ∷ 0x02 ∷ 0x73 ∷ 0 ∷ 0 ∷ 0 ∷ 0 ∷ 0 ∷ 0 ∷ 0
      ∷ handle 1 ++ handle 2 ++ 104 ∷ 105 ∷ 10 ∷ replicate 5 9;
  text = 40;
  pages = one_page;
}

-- ISEND of the 2 bytes at 57 with tag 7, and then an IRECV of 1 byte with tag 7 from the same rank
abbrev pub isend_irecv : ℕ → ℕ → Rank
isend_irecv rank other = record (at_call rank (57 ∷ 2 ∷ other ∷ 7 ∷ 0 ∷ []) 19) { memory = isend_irecv_and_waitall }

-- rank 0 comes to its WAITALL, if the IRECV finds no message
abbrev pub comes_to_waitall : List Step
comes_to_waitall =
    sends ++ step 0 10 Kind.Plain ∷ step 0 11 Kind.Plain ∷ step 0 12 (Kind.Hub (reply.Posted 2 false))
    ∷ step 0 13 Kind.Plain ∷ step 0 14 Kind.Plain ∷ step 0 15 Kind.Plain ∷ []

-- rank 0 waits there for its send to rank 1, and for a message from rank 1. If that has ended, they need no buffers: they are
-- stuck with buffers too
abbrev pub StuckAnyway : Type 0
StuckAnyway = GetToNeedNoBuffers (0 ∷ 1 ∷ []) (both (isend_irecv 0 1) (ended (recv 1 0))) comes_to_waitall

-- 16 bytes of text: nothing, ECALL, the number of EXIT in a7, and ECALL again. Then 48 bytes of data that begin with "hi\n"
abbrev pub call_and_exit : Memory
call_and_exit = record {
  bytes =
      0 ∷ 0 ∷ 0 ∷ 0 ∷ 0x73 ∷ 0 ∷ 0 ∷ 0 ∷ 0x93 ∷ 0x08 ∷ 0 ∷ 0 ∷ 0x73 ∷ 0 ∷ 0 ∷ 0 ∷ 104 ∷ 105 ∷ 10 ∷ replicate 45 9;
  text = 16;
  pages = one_page;
}

-- SEND of the 2 bytes at 17 with tag 7, and then EXIT
abbrev pub send_and_exit : ℕ → ℕ → Rank
send_and_exit rank dest = record (at_call rank (17 ∷ 2 ∷ dest ∷ 7 ∷ 0 ∷ []) 16) { memory = call_and_exit }

-- if it sent that message before it ended, only the send is left to wait for, and they need buffers
abbrev pub OnlySendLeft : Type 0
OnlySendLeft =
    GetToNeedBuffers (0 ∷ 1 ∷ []) (both (isend_irecv 0 1) (send_and_exit 1 0))
    (comes_to_waitall ++ step 1 13 (Kind.Hub (reply.Posted 3 true)) ∷ step 1 14 Kind.Plain ∷ step 1 15 Kind.Local ∷ [])
