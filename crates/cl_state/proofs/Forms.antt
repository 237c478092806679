-- The forms of a turn. Each turn asks and does what one of them says, so what holds of every form holds of every turn:
-- such a proof need not walk the table of calls.
use Rattle.std.proofs.Common.{◌≡◌, ℕ, refl, Bool, true, false, List, [], ◌∷◌, Option, Some, None, IsTrue}
use Rattle.std.specs.Prelude.{◌==◌, if◌then◌else◌, not, ◌+◌, ◌*◌}
use Rattle.rv_memory.specs.Memory.{Memory, bytes_at}
use Rattle.mp_types.specs.declared.codes.Code.{Code}
use Rattle.mp_types.specs.declared.codes.Code.TheVariants as code
use Rattle.mp_types.specs.declared.requests.Request.{Request}
use Rattle.mp_types.specs.declared.requests.Request.TheVariants as request
use Rattle.mp_request.specs.declared.entries.OpenRequest.{OpenRequest}
use Rattle.mp_request.specs.declared.entries.Partitions.{Partitions}
use Rattle.mp_request.specs.declared.entries.Progress.TheVariants.{Finished}
use Rattle.mp_request.specs.declared.entries.State.{State}
use Rattle.mp_request.specs.declared.entries.State.TheVariants.{Ordinary, Inactive}
use Rattle.mp_request.specs.declared.entries.Transfer.{Transfer}
use Rattle.mp_request.specs.declared.entries.Transfer.TheVariants as transfer
use Rattle.mp_request.specs.Table.{Table, request_at}
use Rattle.part_phase.specs.declared.phases.Phase.{Phase}
use Rattle.part_phase.specs.Phases.{receiving_at, sending_at}
use Rattle.part_phase.specs.Receiving.{next_box, next_box_of}
use Rattle.part_phase.specs.Sending.{all_freed, is_part_ready, next_to_free}
use Rattle.cl_calls.specs.declared.calls.Call.{Call}
use Rattle.cl_calls.specs.declared.calls.Call.TheVariants as call
use Rattle.cl_calls.specs.declared.calls.Completing.{Completing}
use Rattle.cl_calls.specs.declared.calls.Partitioning.{Partitioning}
use Rattle.cl_calls.specs.declared.calls.Probing.{Probing}
use Rattle.cl_calls.specs.declared.calls.Sending.{Sending}
use Rattle.cl_calls.specs.declared.calls.Several.{Several}
use Rattle.cl_calls.specs.declared.sites.Site.{Site}
use Rattle.cl_calls.specs.Calls.{any, no_message, no_rank}
use Rattle.cl_calls.specs.Checks.{receiving_side, sending_side}
use Rattle.cl_calls.specs.Handles.{handles_in}
use Rattle.cl_calls.specs.Needs.{array_at, needs_of, needs_of_several}
use Rattle.cl_calls.specs.Site.{member}
use Rattle.cl_state.specs.declared.asking.Ask.{Ask}
use Rattle.cl_state.specs.declared.asking.Ask.TheVariants as ask
use Rattle.cl_state.specs.declared.asking.Doing.{Doing}
use Rattle.cl_state.specs.declared.asking.Doing.TheVariants.{Step, Refused, Go, Poll, Stopped}
use Rattle.cl_state.specs.declared.partitions.Awaited.TheVariants.{Unready}
use Rattle.cl_state.specs.declared.pending.Manner.{Manner}
use Rattle.cl_state.specs.declared.pending.Manner.TheVariants.{Immediate, Blocking, Polling, Posting}
use Rattle.cl_state.specs.declared.pending.Pending.{Pending}
use Rattle.cl_state.specs.declared.pending.Pending.TheVariants as pending
use Rattle.cl_state.specs.declared.pending.Target.{Target}
use Rattle.cl_state.specs.declared.row.Outcome.TheVariants as outcome
use Rattle.cl_state.specs.declared.row.Purpose.{Purpose}
use Rattle.cl_state.specs.declared.row.Purpose.TheVariants as purpose
use Rattle.cl_state.specs.declared.row.Row.{Row}
use Rattle.cl_state.specs.declared.row.Row.TheVariants.{AtOnce, OnReply, OnBox}
use Rattle.cl_state.specs.declared.row.Visit.TheVariants.{Readies, Frees, Takes, Sees}
use Rattle.cl_state.specs.declared.row.Wanted.{Wanted}
use Rattle.cl_state.specs.declared.row.Wanted.TheVariants as wanted
use Rattle.cl_state.specs.Asked.{asked_by, asked_claim, asked_completing, asked_in, asked_poll, asked_probe}
use Rattle.cl_state.specs.Asked.{asked_start}
use Rattle.cl_state.specs.Moves.{link_of, link_of_request, started_in}
use Rattle.cl_state.specs.Partitions.{asked_arrived, asked_awaited, asked_ready, asked_receiving, asked_sending}
use Rattle.cl_state.specs.Partitions.{awaited, awaited_at, awaited_by, boxed}
use Rattle.cl_state.specs.Pending.{asked_pending, pending_in, pending_of}
use Rattle.cl_state.specs.Several.{asked_all, pendings, posts_pending}
use Rattle.cl_state.specs.Table.{begins, claims, comes, completes, completing, gathers, holds_by, into, makes}
use Rattle.cl_state.specs.Table.{nothing_comes, polled, probes, row_arrived, row_awaited, row_completing, row_in}
use Rattle.cl_state.specs.Table.{row_of, row_of_part, row_ready, sees, starts}
use Rattle.cl_state.specs.Transfers.{asked_transfer, send_of, source_of, tag_of}
use Rattle.cl_state.proofs.Awaits.{by_awaited, by_taking}

-- what a call begins something for: a start names the request that it starts
abbrev pub IsFor : Call → Purpose → Type 0
IsFor c (purpose.Start handle) = c ≡ call.Start handle
IsFor c _ = Unit {0}

-- where a transfer comes from: a call that sends names its communicator, a start names a request that is open
abbrev pub IsOf : Table → Call → Purpose → Transfer → Type 0
IsOf table c (purpose.Start handle) t = (r : OpenRequest) × (request_at table handle ≡ Some r) × (r.transfer ≡ t)
IsOf table c _ (transfer.Send sync buffer count dest tag comm) = (needs_of c).comm ≡ Some comm
IsOf table c _ t = Unit {0}

module _ (site : Site) (hart : ℕ) (memory : Memory) (table : Table) (phases : List Phase) where
  -- `P started d asks row` speaks of a turn that does `d`: the link on which it begins a phase, if any, what it asks,
  -- and its row
  pub record Forms (P : Option ℕ → Doing → Ask → Row → Type 0) : Type 0 where
    -- no call
    pub steps : P None Step ask.Plain (AtOnce outcome.Steps)
    pub refused : (c : Code) → P None (Refused c) ask.Local (AtOnce (outcome.Ends c 0))
    pub stopped : P None Stopped ask.Idle (AtOnce outcome.Stays)
    pub polls_message : (c : Call) (post : ℕ) (target : Target)
        → P None (Poll c post) (ask.Hub (request.Collect post)) (OnReply Polling (wanted.Message target))
    pub polls_send : (c : Call) (post : ℕ)
        → P None (Poll c post) (ask.Hub (request.Finished post)) (OnReply Polling wanted.Sent)
    pub polls_other : (c : Call) (post : ℕ)
        → P None (Poll c post) (ask.Hub (request.Collect post)) (OnReply Polling wanted.Nothing)
    -- a call that asks nobody
    pub stays : P None (Go call.Unknown) ask.Local (AtOnce outcome.Stays)
    pub exits : (value : ℕ) → P None (Go (call.Exit value)) ask.Local (AtOnce (outcome.Exits value))
    pub puts : (buffer count : ℕ)
        → P None (Go (call.Put buffer count)) ask.Local (AtOnce (outcome.Puts buffer count))
    pub ends : (c : Call) (end : Code) (value : ℕ) → P None (Go c) ask.Local (AtOnce (outcome.Ends end value))
    pub completes : (c : Call) (source : ℕ) (target : Target)
        → P None (Go c) ask.Local (AtOnce (outcome.Completes source target))
    pub completes_all : (c : Call) (value : ℕ) (s : Several) → needs_of c ≡ needs_of_several s
        → P None (Go c) ask.Local (AtOnce (outcome.CompletesAll value s))
    pub finds_nothing : (c : Call) (value status : ℕ)
        → P None (Go c) ask.Local (AtOnce (outcome.FindsNothing value status))
    pub arrives : (c : Call) (side : Partitions) (target : Target)
        → P None (Go c) ask.Local (AtOnce (outcome.Arrives side target))
    pub holds : (c : Call) → P None (Go c) ask.Held (AtOnce outcome.Holds)
    pub makes : (c : Call) (t : Transfer) → IsOf table c purpose.Open t → link_of t ≡ None
        → P None (Go c) ask.Local (AtOnce (outcome.Opens (record { transfer = t; state = Inactive })))
    pub opens : (c : Call) (t : Transfer) → IsOf table c purpose.Open t → link_of t ≡ None
        → P None (Go c) ask.Local (AtOnce (outcome.Opens (record { transfer = t; state = Ordinary Finished })))
    pub starts : (handle : ℕ)
        → P None (Go (call.Start handle)) ask.Local (AtOnce (outcome.Starts handle Finished))
    pub begins : (handle link : ℕ)
        → P (Some link) (Go (call.Start handle)) ask.Local (AtOnce (outcome.BeginsPhase handle link))
    pub frees : (handle : ℕ) → P None (Go (call.RequestFree handle)) ask.Local (AtOnce (outcome.Frees handle))
    -- a call that posts something at the hub
    pub sends : (c : Call) (why : Purpose) (sync : Bool) (buffer count dest tag comm : ℕ) → IsFor c why
        → IsOf table c why (transfer.Send sync buffer count dest tag comm)
        → P None (Go c) (ask.Hub (request.Send sync comm dest tag (bytes_at memory buffer count)))
        (OnReply Posting (wanted.Post why (transfer.Send sync buffer count dest tag comm)))
    pub receives : (c : Call) (why : Purpose) (now : Bool) (buffer capacity : ℕ) (source tag : Option ℕ) (comm : ℕ)
        → IsFor c why
        → P None (Go c) (ask.Hub (request.Recv now comm source tag))
        (OnReply Posting (wanted.Post why (transfer.Receive buffer capacity source tag comm)))
    pub receives_claimed : (c : Call) (buffer capacity message : ℕ)
        → P None (Go c) (ask.Hub (request.Claimed false message))
        (OnReply Posting (wanted.Post purpose.Open (transfer.ReceiveClaimed buffer capacity)))
    pub starts_claimed : (handle buffer capacity : ℕ)
        → P None (Go (call.Start handle)) ask.Local
        (OnReply Posting (wanted.Post (purpose.Start handle) (transfer.ReceiveClaimed buffer capacity)))
    pub comes : (c : Call) (comm : ℕ) (source tag : Option ℕ) (target : Target)
        → P None (Go c) (ask.Hub (request.Recv true comm source tag)) (OnReply Posting (wanted.MessageOrPost target))
    pub comes_claimed : (c : Call) (message : ℕ) (target : Target)
        → P None (Go c) (ask.Hub (request.Claimed true message)) (OnReply Posting (wanted.MessageOrPost target))
    pub links_sending : (t : Partitioning)
        → P None (Go (call.PsendInit t)) (asked_sending site t) (OnReply Posting (wanted.SendingLink t))
    pub links_receiving : (t : Partitioning)
        → P None (Go (call.PrecvInit t)) (asked_receiving site t) (OnReply Posting (wanted.ReceivingLink t))
    -- a call that asks the hub for something
    pub collects : (c : Call) (m : Manner) (post : ℕ) (target : Target)
        → P None (Go c) (ask.Hub (request.Collect post)) (OnReply m (wanted.Message target))
    pub finishes : (c : Call) (m : Manner) (post : ℕ) (target : Target)
        → P None (Go c) (ask.Hub (request.Finished post)) (OnReply m (wanted.Word target))
    pub gathers : (c : Call) (m : Manner) (value : ℕ) (s : Several) (post : ℕ) (posts : List ℕ)
        → needs_of c ≡ needs_of_several s
        → P None (Go c) (ask.Hub (request.All (post ∷ posts))) (OnReply m (wanted.All value s))
    pub sees : (c : Call) (m : Manner) (comm : ℕ) (source tag : Option ℕ) (value status : ℕ)
        → P None (Go c) (ask.Hub (request.Probe comm source tag)) (OnReply m (wanted.Sight value status))
    pub claims : (c : Call) (m : Manner) (comm : ℕ) (source tag : Option ℕ) (status : ℕ)
        → P None (Go c) (ask.Hub (request.Claim comm source tag)) (OnReply m (wanted.Claim status))
    pub cuts : (c : Call) (m : Manner) (link : ℕ) → (receiving_at phases link).active ≡ true
        → (receiving_at phases link).boxes ≡ 0
        → P None (Go c) (ask.Hub (request.Cut link)) (OnReply m (wanted.Cut m link))
    -- a call that asks a box
    pub readies : (handle part : ℕ) (side : Partitions) → sending_side (request_at table handle) ≡ Some side
        → P None (Go (call.Pready handle part))
        (ask.Ready side.link part (boxed site.version (bytes_at memory (side.buffer + part * side.size) side.size)))
        (OnBox (Readies side.link part))
    pub frees_part : (c : Call) (m : Manner) (link part : ℕ) (target : Target)
        → IsTrue (not (all_freed (sending_at phases link)))
        → next_to_free (sending_at phases link) ≡ Some part
        → is_part_ready (sending_at phases link) part ≡ true
        → P None (Go c) (ask.Freed link part) (OnBox (Frees m link target))
    pub takes : (c : Call) (m : Manner) (side : Partitions) (box : ℕ) (target : Target)
        → (receiving_at phases side.link).active ≡ true
        → next_box (receiving_at phases side.link) ≡ Some box
        → P None (Go c) (ask.Look side.link box) (OnBox (Takes m side box target))
    pub looks : (c : Call) (side : Partitions) (box part : ℕ)
        → (receiving_at phases side.link).active ≡ true
        → next_box_of (receiving_at phases side.link) part ≡ Some box
        → P None (Go c) (ask.Look side.link box) (OnBox (Sees side box part))

  -- ---- the walk

  module _ (P : Option ℕ → Doing → Ask → Row → Type 0) (forms : Forms P) where
    either : (Q : Bool → Type 0) (b : Bool) → Q true → Q false → Q b
    either Q true first second = first
    either Q false first second = second

    -- a call begins this transfer, and no phase
    abbrev Begins : Call → Purpose → Bool → Transfer → Type 0
    Begins c why now t = P None (Go c) (asked_transfer memory now t) (begins why t)

    sends_by : (c : Call) (why : Purpose) (now sync : Bool) (s : Sending) → IsFor c why
        → IsOf table c why (transfer.Send sync s.buffer s.count (member site s.comm s.dest) s.tag s.comm)
        → Begins c why now transfer.SendToNull → Begins c why now (send_of site sync s)
    sends_by c why now sync s is of null =
        either
        (λ b. Begins c why now (if b then transfer.SendToNull
        else transfer.Send sync s.buffer s.count (member site s.comm s.dest) s.tag s.comm))
        (s.dest == no_rank) null
        (forms.sends c why sync s.buffer s.count (member site s.comm s.dest) s.tag s.comm is of)

    probes_by : (c : Call) (m : Manner) (p : Probing) (value : ℕ) (w : Wanted) (r : Request)
        → P None (Go c) (ask.Hub r) (OnReply m w)
        → P None (Go c) (if (p.source == no_rank) then ask.Local else ask.Hub r) (probes m p value w)
    probes_by c m p value w r there =
        either
        (λ b. P None (Go c) (if b then ask.Local else ask.Hub r)
        (if b then AtOnce (outcome.FindsNothing value p.status) else OnReply m w))
        (p.source == no_rank) (forms.finds_nothing c value p.status) there

    sees_by : (c : Call) (m : Manner) (p : Probing) → P None (Go c) (asked_probe site p) (sees m p)
    sees_by c m p = probes_by c m p _ _ _ (forms.sees c m p.comm _ _ _ p.status)

    claims_by : (c : Call) (m : Manner) (p : Probing) → P None (Go c) (asked_claim site p) (claims m p)
    claims_by c m p = probes_by c m p _ _ _ (forms.claims c m p.comm _ _ p.status)

    completes_by : (c : Call) (m : Manner) (t : Completing) (p : Pending)
        → P None (Go c) (asked_pending p) (completes m t p)
    completes_by c m t pending.Nothing = forms.completes c any _
    completes_by c m t pending.FromNull = forms.completes c no_rank _
    completes_by c m t (pending.Message post buffer capacity) = forms.collects c m post _
    completes_by c m t (pending.Word post) = forms.finishes c m post _

    unready_by : (c : Call) (m : Manner) → P None (Go c) (asked_awaited m Unready) (AtOnce (holds_by m))
    unready_by c Immediate = forms.ends c code.Ok 0
    unready_by c _ = forms.holds c

    awaits_by : (c : Call) (m : Manner) (k : Completing) (s : State) (t : Transfer)
        → P None (Go c) (asked_completing m (awaited_by phases t) (pending_in s t))
        (row_completing m k (awaited_by phases t) (Some (record { transfer = t; state = s })))
    awaits_by c m k s (transfer.SendPartitions side) =
        by_taking
        (λ a. P None (Go c) (asked_awaited m a)
        (row_awaited m (transfer.SendPartitions side) (completing m k 0 0) a))
        side.link (sending_at phases side.link)
        (forms.completes c any _) (unready_by c m) (λ part. forms.frees_part c m side.link part _)
    awaits_by c m k s (transfer.ReceivePartitions side) =
        by_awaited
        (λ a. P None (Go c) (asked_awaited m a)
        (row_awaited m (transfer.ReceivePartitions side) (completing m k 0 0) a))
        side.link (receiving_at phases side.link) (next_box (receiving_at phases side.link))
        (forms.arrives c side _) (forms.cuts c m side.link) (λ box. forms.takes c m side box _)
    awaits_by c m k s t = completes_by c m k (pending_in s t)

    completing_by : (c : Call) (m : Manner) (k : Completing) (o : Option OpenRequest)
        → P None (Go c) (asked_completing m (awaited phases o) (pending_of o))
        (row_completing m k (awaited phases o) o)
    completing_by c m k None = completes_by c m k pending.Nothing
    completing_by c m k (Some r) = go r.state r.transfer
      where
        go : (s : State) (t : Transfer)
            → P None (Go c) (asked_completing m (awaited_at phases s t) (pending_in s t))
            (row_completing m k (awaited_at phases s t) (Some (record { transfer = t; state = s })))
        go Inactive t = completes_by c m k pending.Nothing
        go s t = awaits_by c m k s t

    gathers_by : (c : Call) (m : Manner) (s : Several) (posts : List ℕ) → needs_of c ≡ needs_of_several s
        → P None (Go c) (asked_all posts) (gathers m s posts)
    gathers_by c m s [] of = forms.completes_all c _ s of
    gathers_by c m s (post ∷ posts) of = forms.gathers c m _ s post posts of

    starts_by : (handle : ℕ) (o : Option OpenRequest) → request_at table handle ≡ o
        → P (link_of_request o) (Go (call.Start handle)) (asked_start memory o) (starts handle o)
    starts_by handle None is = forms.ends (call.Start handle) code.BadRequest 0
    starts_by handle (Some r) is = go r.transfer refl
      where
        go : (t : Transfer) → r.transfer ≡ t
            → P (link_of t) (Go (call.Start handle)) (asked_transfer memory false t) (begins (purpose.Start handle) t)
        go transfer.SendToNull of = forms.starts handle
        go transfer.ReceiveFromNull of = forms.starts handle
        go (transfer.Send sync buffer count dest tag comm) of =
            forms.sends (call.Start handle) (purpose.Start handle) sync buffer count dest tag comm refl (r, is, of)
        go (transfer.Receive buffer capacity source tag comm) of =
            forms.receives (call.Start handle) (purpose.Start handle) false buffer capacity source tag comm refl
        go (transfer.ReceiveClaimed buffer capacity) of = forms.starts_claimed handle buffer capacity
        go (transfer.SendPartitions side) of = forms.begins handle side.link
        go (transfer.ReceivePartitions side) of = forms.begins handle side.link

    readies_by : (handle part : ℕ) (o : Option Partitions) → sending_side (request_at table handle) ≡ o
        → P None (Go (call.Pready handle part)) (asked_ready site memory part o) (row_ready part o)
    readies_by handle part None is = forms.ends (call.Pready handle part) code.BadRequest 0
    readies_by handle part (Some side) is = forms.readies handle part side is

    arrives_by : (c : Call) (part : ℕ) (o : Option Partitions)
        → P None (Go c) (asked_arrived phases part o) (row_arrived phases part o)
    arrives_by c part None = forms.ends c code.BadRequest 0
    arrives_by c part (Some side) =
        by_awaited (λ a. P None (Go c) (asked_awaited Immediate a) (row_of_part side part a))
        side.link (receiving_at phases side.link) (next_box_of (receiving_at phases side.link) part)
        (forms.ends c code.Ok 1) (forms.cuts c Immediate side.link) (λ box. forms.looks c side box part)

    by_call : (c : Call)
        → P (started_in table (Go c)) (Go c) (asked_by site memory table phases c)
        (row_of site hart memory table phases c)
    by_call (call.Exit value) = forms.exits value
    by_call (call.Put buffer count) = forms.puts buffer count
    by_call (call.Rank comm) = forms.ends (call.Rank comm) code.Ok _
    by_call (call.Size comm) = forms.ends (call.Size comm) code.Ok _
    by_call call.Hart = forms.ends call.Hart code.Ok hart
    by_call (call.Send s) =
        sends_by (call.Send s) purpose.Send true false s tt refl (forms.ends (call.Send s) code.Ok 0)
    by_call (call.Ssend s) =
        sends_by (call.Ssend s) purpose.Send true true s tt refl (forms.ends (call.Ssend s) code.Ok 0)
    by_call (call.Recv r status) =
        either
        (λ b. P None (Go (call.Recv r status))
        (asked_transfer memory true (if b then transfer.ReceiveFromNull
        else transfer.Receive r.buffer r.capacity (source_of site r.comm r.source) (tag_of r.tag) r.comm))
        (if b then nothing_comes (into r.buffer r.capacity status) else comes (into r.buffer r.capacity status)))
        (r.source == no_rank) (forms.completes (call.Recv r status) no_rank _)
        (forms.comes (call.Recv r status) r.comm _ _ _)
    by_call (call.Isend s) =
        sends_by (call.Isend s) purpose.Open false false s tt refl (forms.opens (call.Isend s) _ tt refl)
    by_call (call.Issend s) =
        sends_by (call.Issend s) purpose.Open false true s tt refl (forms.opens (call.Issend s) _ tt refl)
    by_call (call.Irecv r) =
        either
        (λ b. Begins (call.Irecv r) purpose.Open false (if b then transfer.ReceiveFromNull
        else transfer.Receive r.buffer r.capacity (source_of site r.comm r.source) (tag_of r.tag) r.comm))
        (r.source == no_rank) (forms.opens (call.Irecv r) _ tt refl)
        (forms.receives (call.Irecv r) purpose.Open false r.buffer r.capacity _ _ r.comm tt)
    by_call (call.Test c) = completing_by (call.Test c) Immediate c (request_at table c.handle)
    by_call (call.Wait c) = completing_by (call.Wait c) Blocking c (request_at table c.handle)
    by_call (call.Iprobe p) = sees_by (call.Iprobe p) Immediate p
    by_call (call.Probe p) = sees_by (call.Probe p) Blocking p
    by_call (call.Improbe p) = claims_by (call.Improbe p) Immediate p
    by_call (call.Mprobe p) = claims_by (call.Mprobe p) Blocking p
    by_call (call.Imrecv m) =
        either
        (λ b. P None (Go (call.Imrecv m)) (if b then ask.Local else ask.Hub (request.Claimed false m.message))
        (begins purpose.Open (if b then transfer.ReceiveFromNull else transfer.ReceiveClaimed m.buffer m.capacity)))
        (m.message == no_message) (forms.opens (call.Imrecv m) _ tt refl)
        (forms.receives_claimed (call.Imrecv m) m.buffer m.capacity m.message)
    by_call (call.Mrecv m status) =
        either
        (λ b. P None (Go (call.Mrecv m status)) (if b then ask.Local else ask.Hub (request.Claimed true m.message))
        (if b then nothing_comes (into m.buffer m.capacity status) else comes (into m.buffer m.capacity status)))
        (m.message == no_message) (forms.completes (call.Mrecv m status) no_rank _)
        (forms.comes_claimed (call.Mrecv m status) m.message _)
    by_call (call.SendInit s) =
        either
        (λ b. P None (Go (call.SendInit s)) ask.Local (makes (if b then transfer.SendToNull
        else transfer.Send false s.buffer s.count (member site s.comm s.dest) s.tag s.comm)))
        (s.dest == no_rank) (forms.makes (call.SendInit s) _ tt refl) (forms.makes (call.SendInit s) _ refl refl)
    by_call (call.RecvInit r) =
        either
        (λ b. P None (Go (call.RecvInit r)) ask.Local (makes (if b then transfer.ReceiveFromNull
        else transfer.Receive r.buffer r.capacity (source_of site r.comm r.source) (tag_of r.tag) r.comm)))
        (r.source == no_rank) (forms.makes (call.RecvInit r) _ tt refl) (forms.makes (call.RecvInit r) _ tt refl)
    by_call (call.Start handle) = starts_by handle (request_at table handle) refl
    by_call (call.RequestFree handle) = forms.frees handle
    by_call (call.Testall s) =
        gathers_by (call.Testall s) Immediate s
        (posts_pending (pendings table (handles_in memory (array_at s.array s.count)))) refl
    by_call (call.Waitall s) =
        gathers_by (call.Waitall s) Blocking s
        (posts_pending (pendings table (handles_in memory (array_at s.array s.count)))) refl
    by_call (call.PsendInit t) = forms.links_sending t
    by_call (call.PrecvInit t) = forms.links_receiving t
    by_call (call.Pready handle part) = readies_by handle part (sending_side (request_at table handle)) refl
    by_call (call.Parrived handle part) =
        arrives_by (call.Parrived handle part) part (receiving_side (request_at table handle))
    by_call call.Unknown = forms.stays

    by_poll : (c : Call) (post : ℕ) → P None (Poll c post) (asked_poll c post) (OnReply Polling (polled c))
    by_poll (call.Ssend s) post = forms.polls_send (call.Ssend s) post
    by_poll (call.Recv r status) post = forms.polls_message (call.Recv r status) post _
    by_poll (call.Mrecv m status) post = forms.polls_message (call.Mrecv m status) post _
    by_poll c post = forms.polls_other c post

    pub by_form : (d : Doing)
        → P (started_in table d) d (asked_in site memory table phases d) (row_in site hart memory table phases d)
    by_form Step = forms.steps
    by_form (Refused c) = forms.refused c
    by_form (Go c) = by_call c
    by_form (Poll c post) = by_poll c post
    by_form Stopped = forms.stopped
