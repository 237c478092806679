-- What a request still needs to complete (MPI 4.1, 3.7.3).
use Rattle.std.specs.Prelude.{ℕ, Option, Some, None}
use Rattle.mp_types.specs.declared.requests.Request.TheVariants as request
use Rattle.mp_request.specs.declared.entries.OpenRequest.{OpenRequest}
use Rattle.mp_request.specs.declared.entries.Progress.{Progress}
use Rattle.mp_request.specs.declared.entries.Progress.TheVariants.{Finished, Sent, OnPost, InPhase}
use Rattle.mp_request.specs.declared.entries.State.{State}
use Rattle.mp_request.specs.declared.entries.State.TheVariants.{Ordinary, Inactive, Active}
use Rattle.mp_request.specs.declared.entries.Transfer.{Transfer}
use Rattle.mp_request.specs.declared.entries.Transfer.TheVariants.{SendToNull, ReceiveFromNull, Send, Receive}
use Rattle.mp_request.specs.declared.entries.Transfer.TheVariants.{ReceiveClaimed, SendPartitions, ReceivePartitions}
use Rattle.cl_state.specs.declared.asking.Ask.{Ask}
use Rattle.cl_state.specs.declared.asking.Ask.TheVariants as ask
use Rattle.cl_state.specs.declared.pending.Manner.{Manner}
use Rattle.cl_state.specs.declared.pending.Manner.TheVariants.{Immediate}
use Rattle.cl_state.specs.declared.pending.Pending.{Pending}
use Rattle.cl_state.specs.declared.pending.Pending.TheVariants.{Nothing, FromNull, Message, Word}

-- the flag of an immediate call that completes; no other gives one
abbrev pub immediate_flag : Manner → ℕ
immediate_flag Immediate = 1
immediate_flag _ = 0

-- a receive needs its message, and a send word that it is complete
abbrev pub pending_on : ℕ → Transfer → Pending
pending_on post (Send sync buffer count dest tag comm) = Word post
pending_on post (Receive buffer capacity source tag comm) = Message post buffer capacity
pending_on post (ReceiveClaimed buffer capacity) = Message post buffer capacity
pending_on post SendToNull = Nothing
pending_on post ReceiveFromNull = Nothing
pending_on post (SendPartitions side) = Nothing
pending_on post (ReceivePartitions side) = Nothing

-- nothing awaited: the status is empty, but of a receive from the null process (3.11)
abbrev pub pending_finished : Transfer → Pending
pending_finished ReceiveFromNull = FromNull
pending_finished _ = Nothing

abbrev pub pending_at : Progress → Transfer → Pending
pending_at Finished transfer = pending_finished transfer
pending_at (Sent post) transfer = pending_finished transfer
pending_at (OnPost post) transfer = pending_on post transfer
pending_at InPhase transfer = Nothing

abbrev pub pending_in : State → Transfer → Pending
pending_in (Ordinary progress) transfer = pending_at progress transfer
pending_in Inactive transfer = Nothing
pending_in (Active progress) transfer = pending_at progress transfer

-- the null request and an inactive one need nothing
abbrev pub pending_of : Option OpenRequest → Pending
pending_of None = Nothing
pending_of (Some r) = pending_in r.state r.transfer

abbrev pub asked_pending : Pending → Ask
asked_pending Nothing = ask.Local
asked_pending FromNull = ask.Local
asked_pending (Message post buffer capacity) = ask.Hub (request.Collect post)
asked_pending (Word post) = ask.Hub (request.Finished post)
