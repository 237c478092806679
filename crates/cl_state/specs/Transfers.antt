-- What a call transfers, what the hub is asked for it, and how far it is once it has its post.
use Rattle.std.specs.Prelude.{ℕ, ◌==◌, if◌then◌else◌, Option, Some, None, Bool, true, false}
use Rattle.rv_memory.specs.Memory.{Memory, bytes_at}
use Rattle.mp_types.specs.declared.requests.Request.TheVariants as request
use Rattle.mp_request.specs.declared.entries.Progress.{Progress}
use Rattle.mp_request.specs.declared.entries.Progress.TheVariants.{Finished, Sent, OnPost}
use Rattle.mp_request.specs.declared.entries.Transfer.{Transfer}
use Rattle.mp_request.specs.declared.entries.Transfer.TheVariants.{SendToNull, ReceiveFromNull, Send, Receive}
use Rattle.mp_request.specs.declared.entries.Transfer.TheVariants.{ReceiveClaimed, SendPartitions, ReceivePartitions}
use Rattle.cl_calls.specs.declared.calls.Claimed.{Claimed}
use Rattle.cl_calls.specs.declared.calls.Receiving.{Receiving}
use Rattle.cl_calls.specs.declared.calls.Sending.{Sending}
use Rattle.cl_calls.specs.declared.sites.Site.{Site}
use Rattle.cl_calls.specs.Site.{member}
use Rattle.cl_calls.specs.Calls.{any, no_rank, no_message}
use Rattle.cl_state.specs.declared.asking.Ask.{Ask}
use Rattle.cl_state.specs.declared.asking.Ask.TheVariants as ask

-- a source argument as a rank of the cluster, and a tag argument; None is any
abbrev pub source_of : Site → ℕ → ℕ → Option ℕ
source_of site comm source = if (source == any) then None else Some (member site comm source)

abbrev pub tag_of : ℕ → Option ℕ
tag_of tag = if (tag == any) then None else Some tag

-- a send, in synchronous mode or in standard mode (MPI 4.1, 3.4); with the null process nothing is moved (3.11)
abbrev pub send_of : Site → Bool → Sending → Transfer
send_of site sync s =
    if (s.dest == no_rank) then SendToNull else Send sync s.buffer s.count (member site s.comm s.dest) s.tag s.comm

abbrev pub receive_of : Site → Receiving → Transfer
receive_of site r =
    if (r.source == no_rank)
    then ReceiveFromNull
    else Receive r.buffer r.capacity (source_of site r.comm r.source) (tag_of r.tag) r.comm

-- the message of a matched probe of the null process is received from there (3.8.3)
abbrev pub claimed_of : Claimed → Transfer
claimed_of m = if (m.message == no_message) then ReceiveFromNull else ReceiveClaimed m.buffer m.capacity

-- what is asked for a transfer: a receive may want its message now; with the null process nothing is asked
abbrev pub asked_transfer : Memory → Bool → Transfer → Ask
asked_transfer memory now SendToNull = ask.Local
asked_transfer memory now ReceiveFromNull = ask.Local
asked_transfer memory now (Send sync buffer count dest tag comm) =
    ask.Hub (request.Send sync comm dest tag (bytes_at memory buffer count))
asked_transfer memory now (Receive buffer capacity source tag comm) = ask.Hub (request.Recv now comm source tag)
asked_transfer memory now (ReceiveClaimed buffer capacity) = ask.Local
asked_transfer memory now (SendPartitions side) = ask.Local
asked_transfer memory now (ReceivePartitions side) = ask.Local

abbrev pub asked_claimed : Bool → Claimed → Ask
asked_claimed now m = if (m.message == no_message) then ask.Local else ask.Hub (request.Claimed now m.message)

-- a standard send is complete at once, a synchronous one when it is paired with a receive (3.4)
abbrev pub sent_on : Bool → ℕ → Bool → Progress
sent_on false post done = Sent post
sent_on true post done = if done then Finished else OnPost post

-- how far a transfer is once it has its post
abbrev pub posted : Transfer → ℕ → Bool → Progress
posted (Send sync buffer count dest tag comm) post done = sent_on sync post done
posted _ post done = OnPost post
