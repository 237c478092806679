-- The table of calls: one row a call, with what it does at once, the reply that it wants of the hub, or the box that it
-- asks.
use Rattle.std.specs.Prelude.{ℕ, ◌==◌, if◌then◌else◌, List, length, Option, Some, None, true, false}
use Rattle.std.specs.Option.{unwrap_or}
use Rattle.rv_memory.specs.Memory.{Memory}
use Rattle.mp_types.specs.declared.codes.Code.TheVariants as code
use Rattle.mp_request.specs.declared.entries.OpenRequest.{OpenRequest}
use Rattle.mp_request.specs.declared.entries.Progress.{Progress}
use Rattle.mp_request.specs.declared.entries.Progress.TheVariants as progress
use Rattle.mp_request.specs.declared.entries.State.TheVariants as state
use Rattle.mp_request.specs.declared.entries.Transfer.{Transfer}
use Rattle.mp_request.specs.declared.entries.Transfer.TheVariants as transfer
use Rattle.mp_request.specs.Table.{Table, request_at}
use Rattle.cl_calls.specs.declared.calls.Call.{Call}
use Rattle.cl_calls.specs.declared.calls.Call.TheVariants as call
use Rattle.cl_calls.specs.declared.calls.Claimed.{Claimed}
use Rattle.cl_calls.specs.declared.calls.Completing.{Completing}
use Rattle.cl_calls.specs.declared.calls.Probing.{Probing}
use Rattle.cl_calls.specs.declared.calls.Receiving.{Receiving}
use Rattle.cl_calls.specs.declared.calls.Several.{Several}
use Rattle.cl_calls.specs.declared.sites.Site.{Site}
use Rattle.cl_calls.specs.Site.{members, position_of}
use Rattle.cl_calls.specs.Calls.{any, no_rank, no_message}
use Rattle.cl_calls.specs.Handles.{handles_in}
use Rattle.cl_calls.specs.Needs.{array_at}
use Rattle.cl_state.specs.declared.asking.Doing.{Doing}
use Rattle.cl_state.specs.declared.asking.Doing.TheVariants.{Step, Refused, Go, Poll, Stopped}
use Rattle.cl_state.specs.declared.pending.Manner.{Manner}
use Rattle.cl_state.specs.declared.pending.Manner.TheVariants.{Immediate, Blocking, Posting, Polling}
use Rattle.cl_state.specs.declared.pending.Pending.{Pending}
use Rattle.cl_state.specs.declared.pending.Pending.TheVariants as pending
use Rattle.cl_state.specs.declared.pending.Target.{Target}
use Rattle.cl_state.specs.declared.row.Outcome.{Outcome}
use Rattle.cl_state.specs.declared.row.Outcome.TheVariants.{Steps, Stays, Exits, Ends, Waits, Puts, Opens, Starts}
use Rattle.cl_state.specs.declared.row.Outcome.TheVariants.{Frees as FreesHandle, Completes, FindsNothing, CompletesAll}
use Rattle.cl_state.specs.declared.row.Outcome.TheVariants.{BeginsPhase, Holds, Arrives}
use Rattle.cl_state.specs.declared.row.Visit.TheVariants.{Readies, Frees, Takes, Sees}
use Rattle.cl_state.specs.declared.row.Purpose.{Purpose}
use Rattle.cl_state.specs.declared.row.Purpose.TheVariants as purpose
use Rattle.cl_state.specs.declared.row.Row.{Row}
use Rattle.cl_state.specs.declared.row.Row.TheVariants.{AtOnce, OnReply, OnBox}
use Rattle.cl_state.specs.declared.row.Wanted.{Wanted}
use Rattle.cl_state.specs.declared.row.Wanted.TheVariants as wanted
use Rattle.cl_state.specs.Transfers.{send_of, receive_of, claimed_of}
use Rattle.cl_state.specs.declared.partitions.Awaited.{Awaited}
use Rattle.cl_state.specs.declared.partitions.Awaited.TheVariants as awaited_word
use Rattle.mp_request.specs.declared.entries.Partitions.{Partitions}
use Rattle.part_phase.specs.declared.phases.Phase.{Phase}
use Rattle.part_phase.specs.Phases.{receiving_at}
use Rattle.cl_calls.specs.Checks.{sending_side, receiving_side}
use Rattle.cl_state.specs.Partitions.{awaited, awaited_of_part}
use Rattle.cl_state.specs.Pending.{immediate_flag, pending_of}
use Rattle.cl_state.specs.Several.{pendings, posts_pending, has_posts}

-- ---- transfers

-- how a call goes on once its transfer has begun: a send that isn't complete waits for
-- its post, a request is opened as an ordinary one (MPI 4.1, 3.7.2) or started (3.9)
abbrev pub begun_outcome : Purpose → Transfer → Progress → Outcome
begun_outcome purpose.Send t progress.Finished = Ends code.Ok 0
begun_outcome purpose.Send t (progress.Sent post) = Ends code.Ok 0
begun_outcome purpose.Send t (progress.OnPost post) = Waits post
begun_outcome purpose.Send t progress.InPhase = Ends code.BadRequest 0
begun_outcome purpose.Open t p = Opens (record { transfer = t; state = state.Ordinary p })
begun_outcome (purpose.Start handle) t p = Starts handle p

-- a partitioned transfer begins a phase, by a start alone (4.2.1)
abbrev pub begins_phase : Purpose → ℕ → Row
begins_phase (purpose.Start handle) link = AtOnce (BeginsPhase handle link)
begins_phase _ link = AtOnce (Ends code.BadRequest 0)

-- a transfer with the null process begins and is finished at once (3.11), any other by a post
abbrev pub begins : Purpose → Transfer → Row
begins why transfer.SendToNull = AtOnce (begun_outcome why transfer.SendToNull progress.Finished)
begins why transfer.ReceiveFromNull = AtOnce (begun_outcome why transfer.ReceiveFromNull progress.Finished)
begins why (transfer.SendPartitions side) = begins_phase why side.link
begins why (transfer.ReceivePartitions side) = begins_phase why side.link
begins why t = OnReply Posting (wanted.Post why t)

-- a start begins what its request transfers (3.9)
abbrev pub starts : ℕ → Option OpenRequest → Row
starts handle None = AtOnce (Ends code.BadRequest 0)
starts handle (Some r) = begins (purpose.Start handle) r.transfer

-- a persistent request is inactive when it is made (3.9)
abbrev pub makes : Transfer → Row
makes t = AtOnce (Opens (record { transfer = t; state = state.Inactive }))

-- ---- receives, and calls that complete requests

-- a call that waits for its message itself, and has no request
abbrev pub into : ℕ → ℕ → ℕ → Target
into buffer capacity status = record { buffer = buffer; capacity = capacity; status = status; handle = 0; value = 0 }

-- from the null process nothing comes (3.11); else a message comes with the reply, or is waited for
abbrev pub nothing_comes : Target → Row
nothing_comes target = AtOnce (Completes no_rank target)

abbrev pub comes : Target → Row
comes target = OnReply Posting (wanted.MessageOrPost target)

abbrev pub receives : Receiving → ℕ → Row
receives r status =
    if (r.source == no_rank)
    then nothing_comes (into r.buffer r.capacity status)
    else comes (into r.buffer r.capacity status)

abbrev pub receives_claimed : Claimed → ℕ → Row
receives_claimed m status =
    if (m.message == no_message)
    then nothing_comes (into m.buffer m.capacity status)
    else comes (into m.buffer m.capacity status)

-- what completes a request goes where its receive said, and its status where the call says
abbrev pub completing : Manner → Completing → ℕ → ℕ → Target
completing m c buffer capacity =
    record { buffer = buffer; capacity = capacity; status = c.status; handle = c.handle; value = immediate_flag m }

-- a test or a wait, by what its request needs (3.7.3)
abbrev pub completes : Manner → Completing → Pending → Row
completes m c pending.Nothing = AtOnce (Completes any (completing m c 0 0))
completes m c pending.FromNull = nothing_comes (completing m c 0 0)
completes m c (pending.Message post buffer capacity) = OnReply m (wanted.Message (completing m c buffer capacity))
completes m c (pending.Word post) = OnReply m (wanted.Word (completing m c 0 0))

-- ---- partitions

-- with nothing left a send completes with the empty status, and a receive with its source, its tag and all its bytes
abbrev pub concludes : Transfer → Target → Outcome
concludes (transfer.ReceivePartitions side) target = Arrives side target
concludes _ target = Completes any target

-- a test or a wait that is held up by its own rank
abbrev pub holds_by : Manner → Outcome
holds_by Immediate = Ends code.Ok 0
holds_by _ = Holds

-- a box may be taken for the receiver's side alone
abbrev pub takes : Manner → Transfer → ℕ → Target → Row
takes m (transfer.ReceivePartitions side) box target = OnBox (Takes m side box target)
takes m _ box target = AtOnce (Ends code.BadRequest 0)

-- a test or a wait of a partitioned request that is active, by what it awaits in its phase (4.2)
abbrev pub row_awaited : Manner → Transfer → Target → Awaited → Row
row_awaited m t target awaited_word.Nothing = AtOnce (concludes t target)
row_awaited m t target awaited_word.Unready = AtOnce (holds_by m)
row_awaited m t target (awaited_word.Taking link part) = OnBox (Frees m link target)
row_awaited m t target (awaited_word.Cut link) = OnReply m (wanted.Cut m link)
row_awaited m t target (awaited_word.Box link box) = takes m t box target

abbrev pub row_completing : Manner → Completing → Option Awaited → Option OpenRequest → Row
row_completing m c (Some a) (Some r) = row_awaited m r.transfer (completing m c 0 0) a
row_completing m c _ r = completes m c (pending_of r)

abbrev pub row_ready : ℕ → Option Partitions → Row
row_ready part None = AtOnce (Ends code.BadRequest 0)
row_ready part (Some side) = OnBox (Readies side.link part)

-- a partition that awaits nothing has arrived
abbrev pub row_of_part : Partitions → ℕ → Awaited → Row
row_of_part side part (awaited_word.Cut link) = OnReply Immediate (wanted.Cut Immediate link)
row_of_part side part (awaited_word.Box link box) = OnBox (Sees side box part)
row_of_part side part _ = AtOnce (Ends code.Ok 1)

abbrev pub row_arrived : List Phase → ℕ → Option Partitions → Row
row_arrived phases part None = AtOnce (Ends code.BadRequest 0)
row_arrived phases part (Some side) =
    row_of_part side part (awaited_of_part side.link (receiving_at phases side.link) part)

-- where no post is asked for all complete at once, and else all or none (3.7.5)
abbrev pub gathers : Manner → Several → List ℕ → Row
gathers m s posts =
    if has_posts posts then OnReply m (wanted.All (immediate_flag m) s) else AtOnce (CompletesAll (immediate_flag m) s)

-- ---- probes

-- a probe of the null process finds at once that nothing comes from there, with this value (3.8, 3.11)
abbrev pub probes : Manner → Probing → ℕ → Wanted → Row
probes m p value w = if (p.source == no_rank) then AtOnce (FindsNothing value p.status) else OnReply m w

-- a probe tells the envelope of a message that is there
abbrev pub sees : Manner → Probing → Row
sees m p = probes m p (immediate_flag m) (wanted.Sight (immediate_flag m) p.status)

-- a matched one gives the handle of the message that it claimed
abbrev pub claims : Manner → Probing → Row
claims m p = probes m p no_message (wanted.Claim p.status)

-- ---- the table

abbrev pub gives_at_once : ℕ → Row
gives_at_once value = AtOnce (Ends code.Ok value)

abbrev pub row_of : Site → ℕ → Memory → Table → List Phase → Call → Row
row_of site hart memory table phases (call.Exit value) = AtOnce (Exits value)
row_of site hart memory table phases (call.Put buffer count) = AtOnce (Puts buffer count)
row_of site hart memory table phases (call.Rank comm) = gives_at_once (unwrap_or (position_of site.number (members site comm)) 0)
row_of site hart memory table phases (call.Size comm) = gives_at_once (length (members site comm))
row_of site hart memory table phases call.Hart = gives_at_once hart
row_of site hart memory table phases (call.Send s) = begins purpose.Send (send_of site false s)
row_of site hart memory table phases (call.Ssend s) = begins purpose.Send (send_of site true s)
row_of site hart memory table phases (call.Recv r status) = receives r status
row_of site hart memory table phases (call.Isend s) = begins purpose.Open (send_of site false s)
row_of site hart memory table phases (call.Issend s) = begins purpose.Open (send_of site true s)
row_of site hart memory table phases (call.Irecv r) = begins purpose.Open (receive_of site r)
row_of site hart memory table phases (call.Test c) =
    row_completing Immediate c (awaited phases (request_at table c.handle)) (request_at table c.handle)
row_of site hart memory table phases (call.Wait c) =
    row_completing Blocking c (awaited phases (request_at table c.handle)) (request_at table c.handle)
row_of site hart memory table phases (call.Iprobe p) = sees Immediate p
row_of site hart memory table phases (call.Probe p) = sees Blocking p
row_of site hart memory table phases (call.Improbe p) = claims Immediate p
row_of site hart memory table phases (call.Mprobe p) = claims Blocking p
row_of site hart memory table phases (call.Imrecv m) = begins purpose.Open (claimed_of m)
row_of site hart memory table phases (call.Mrecv m status) = receives_claimed m status
row_of site hart memory table phases (call.SendInit s) = makes (send_of site false s)
row_of site hart memory table phases (call.RecvInit r) = makes (receive_of site r)
row_of site hart memory table phases (call.Start handle) = starts handle (request_at table handle)
row_of site hart memory table phases (call.RequestFree handle) = AtOnce (FreesHandle handle)
row_of site hart memory table phases (call.Testall s) =
    gathers Immediate s (posts_pending (pendings table (handles_in memory (array_at s.array s.count))))
row_of site hart memory table phases (call.Waitall s) =
    gathers Blocking s (posts_pending (pendings table (handles_in memory (array_at s.array s.count))))
row_of site hart memory table phases (call.PsendInit t) = OnReply Posting (wanted.SendingLink t)
row_of site hart memory table phases (call.PrecvInit t) = OnReply Posting (wanted.ReceivingLink t)
row_of site hart memory table phases (call.Pready handle part) = row_ready part (sending_side (request_at table handle))
row_of site hart memory table phases (call.Parrived handle part) =
    row_arrived phases part (receiving_side (request_at table handle))
row_of site hart memory table phases call.Unknown = AtOnce Stays

-- a poll wants the message of a receive, or word that a synchronous send is complete
abbrev pub polled : Call → Wanted
polled (call.Recv r status) = wanted.Message (into r.buffer r.capacity status)
polled (call.Mrecv m status) = wanted.Message (into m.buffer m.capacity status)
polled (call.Ssend s) = wanted.Sent
polled _ = wanted.Nothing

-- and the row of any turn
abbrev pub row_in : Site → ℕ → Memory → Table → List Phase → Doing → Row
row_in site hart memory table phases Step = AtOnce Steps
row_in site hart memory table phases (Refused c) = AtOnce (Ends c 0)
row_in site hart memory table phases (Go c) = row_of site hart memory table phases c
row_in site hart memory table phases (Poll c post) = OnReply Polling (polled c)
row_in site hart memory table phases Stopped = AtOnce Stays
