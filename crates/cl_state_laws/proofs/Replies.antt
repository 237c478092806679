-- What replies that complete nothing leave as it was.
use Rattle.std.proofs.Common.{◌≡◌, ℕ, refl, ap, Bool, true, false, List, [], ◌∷◌, Option, Some, None}
use Rattle.std.specs.Prelude.{◌==◌, if◌then◌else◌}
use Rattle.rv_memory.specs.Memory.{Memory}
use Rattle.mp_types.specs.declared.codes.Code.{Code}
use Rattle.mp_types.specs.declared.replies.Reply.TheVariants as reply
use Rattle.mp_types.specs.declared.requests.Request.{Request}
use Rattle.mp_request.specs.declared.entries.OpenRequest.{OpenRequest}
use Rattle.mp_request.specs.declared.entries.Transfer.{Transfer}
use Rattle.mp_request.specs.declared.entries.Transfer.TheVariants.{ReceiveFromNull, Send, Receive, ReceiveClaimed}
use Rattle.mp_request.specs.Table.{Table, request_at}
use Rattle.cl_calls.specs.declared.calls.Call.{Call}
use Rattle.cl_calls.specs.declared.calls.Call.TheVariants as call
use Rattle.cl_calls.specs.declared.calls.Completing.{Completing}
use Rattle.cl_calls.specs.declared.calls.Several.{Several}
use Rattle.cl_calls.specs.declared.sites.Site.{Site}
use Rattle.cl_calls.specs.Calls.{no_rank, no_message}
use Rattle.cl_calls.specs.Handles.{handles_in}
use Rattle.cl_calls.specs.Needs.{array_at}
use Rattle.cl_state.specs.declared.asking.Answer.TheVariants as answer
use Rattle.cl_state.specs.declared.asking.Ask.{Ask}
use Rattle.cl_state.specs.declared.asking.Ask.TheVariants as ask
use Rattle.cl_state.specs.declared.asking.Doing.{Doing}
use Rattle.cl_state.specs.declared.asking.Doing.TheVariants.{Go, Poll}
use Rattle.cl_state.specs.declared.pending.Manner.{Manner}
use Rattle.cl_state.specs.declared.pending.Manner.TheVariants.{Immediate, Blocking, Polling, Posting}
use Rattle.cl_state.specs.declared.pending.Pending.{Pending}
use Rattle.cl_state.specs.declared.pending.Pending.TheVariants as pending
use Rattle.cl_state.specs.declared.pending.Target.{Target}
use Rattle.cl_state.specs.declared.partitions.Awaited.{Awaited}
use Rattle.cl_state.specs.declared.partitions.Awaited.TheVariants.{Nothing, Unready, Taking, Cut, Box}
use Rattle.cl_state.specs.declared.row.Purpose.{Purpose}
use Rattle.cl_state.specs.declared.row.Purpose.TheVariants as purpose
use Rattle.cl_state.specs.declared.row.Row.{Row}
use Rattle.cl_state.specs.declared.row.Row.TheVariants.{AtOnce, OnReply, OnBox}
use Rattle.cl_state.specs.Asked.{Part, part_of, doing, asked, asked_by, asked_completing, asked_in, asked_start}
use Rattle.cl_state.specs.Partitions.{asked_arrived, asked_awaited, asked_ready, awaited, awaited_of_part}
use Rattle.mp_request.specs.declared.entries.Partitions.{Partitions}
use Rattle.part_phase.specs.declared.phases.Phase.{Phase}
use Rattle.part_phase.specs.Phases.{receiving_at}
use Rattle.cl_calls.specs.Checks.{receiving_side, sending_side}
use Rattle.cl_state.specs.Pending.{asked_pending, pending_of}
use Rattle.cl_state.specs.Several.{asked_all, pendings, posts_pending}
use Rattle.cl_state.specs.Table.{begins, completes, completing, gathers, row_arrived, row_awaited, row_completing}
use Rattle.cl_state.specs.Table.{row_in, row_of, row_of_part, row_ready, starts}
use Rattle.cl_state.specs.Told.{ended, told, told_row, with_part}
use Rattle.cl_state.specs.Transfers.{asked_transfer, receive_of, send_of}
use Rattle.cl_state_laws.specs.Laws.{HubRefusalLaw, NotYetLaw}

-- ---- a turn that asks the hub has the row of one that waits for a reply

abbrev pub Waits : Row → Type 0
Waits (AtOnce o) = ⊥
Waits (OnReply m w) = Unit {0}
Waits (OnBox v) = ⊥

-- of two ways the one that asks the hub was taken
either_waits : (local : Bool) (a : Ask) (r : Request) (x y : Row) → Waits y
    → (if local then ask.Local else a) ≡ ask.Hub r → Waits (if local then x else y)
either_waits true a r x y waits hub = cc
either_waits false a r x y waits hub = waits

-- a transfer with the null process isn't asked
receives_wait : (null : Bool) (memory : Memory) (now : Bool) (t : Transfer) (r : Request) (x y : Row) → Waits y
    → asked_transfer memory now (if null then ReceiveFromNull else t) ≡ ask.Hub r → Waits (if null then x else y)
receives_wait true memory now t r x y waits hub = cc
receives_wait false memory now t r x y waits hub = waits

begins_waits : (memory : Memory) (now : Bool) (why : Purpose) (t : Transfer) (r : Request)
    → asked_transfer memory now t ≡ ask.Hub r → Waits (begins why t)
begins_waits memory now why (Send sync buffer count dest tag comm) r hub = tt
begins_waits memory now why (Receive buffer capacity source tag comm) r hub = tt
begins_waits memory now why _ r hub = cc

claimed_waits : (null : Bool) (buffer capacity : ℕ) (a : Ask) (r : Request)
    → (if null then ask.Local else a) ≡ ask.Hub r
    → Waits (begins purpose.Open (if null then ReceiveFromNull else ReceiveClaimed buffer capacity))
claimed_waits true buffer capacity a r hub = cc
claimed_waits false buffer capacity a r hub = tt

starts_waits : (memory : Memory) (handle : ℕ) (o : Option OpenRequest) (r : Request) → asked_start memory o ≡ ask.Hub r
    → Waits (starts handle o)
starts_waits memory handle None r hub = cc
starts_waits memory handle (Some o) r hub = begins_waits memory false (purpose.Start handle) o.transfer r hub

completes_waits : (m : Manner) (c : Completing) (p : Pending) (r : Request) → asked_pending p ≡ ask.Hub r
    → Waits (completes m c p)
completes_waits m c (pending.Message post buffer capacity) r hub = tt
completes_waits m c (pending.Word post) r hub = tt
completes_waits m c _ r hub = cc

gathers_waits : (m : Manner) (s : Several) (posts : List ℕ) (r : Request) → asked_all posts ≡ ask.Hub r
    → Waits (gathers m s posts)
gathers_waits m s [] r hub = cc
gathers_waits m s (post ∷ posts) r hub = tt

-- of what is awaited the cut alone is asked of the hub
awaits_waits : (m : Manner) (t : Transfer) (target : Target) (a : Awaited) (r : Request)
    → asked_awaited m a ≡ ask.Hub r → Waits (row_awaited m t target a)
awaits_waits m t target Nothing r hub = cc
awaits_waits Immediate t target Unready r hub = cc
awaits_waits Blocking t target Unready r hub = cc
awaits_waits Polling t target Unready r hub = cc
awaits_waits Posting t target Unready r hub = cc
awaits_waits m t target (Taking link part) r hub = cc
awaits_waits m t target (Cut link) r hub = tt
awaits_waits m t target (Box link box) r hub = cc

either_waits_on : (m : Manner) (c : Completing) (o : Option Awaited) (q : OpenRequest) (r : Request)
    → asked_completing m o (pending_of (Some q)) ≡ ask.Hub r → Waits (row_completing m c o (Some q))
either_waits_on m c None q r hub = completes_waits m c (pending_of (Some q)) r hub
either_waits_on m c (Some a) q r hub = awaits_waits m q.transfer (completing m c 0 0) a r hub

completing_waits : (phases : List Phase) (m : Manner) (c : Completing) (o : Option OpenRequest) (r : Request)
    → asked_completing m (awaited phases o) (pending_of o) ≡ ask.Hub r
    → Waits (row_completing m c (awaited phases o) o)
completing_waits phases m c None r hub = completes_waits m c pending.Nothing r hub
completing_waits phases m c (Some q) r hub = either_waits_on m c (awaited phases (Some q)) q r hub

ready_waits : (site : Site) (memory : Memory) (part : ℕ) (o : Option Partitions) (r : Request)
    → asked_ready site memory part o ≡ ask.Hub r → Waits (row_ready part o)
ready_waits site memory part None r hub = cc
ready_waits site memory part (Some side) r hub = cc

part_waits : (side : Partitions) (part : ℕ) (a : Awaited) (r : Request) → asked_awaited Immediate a ≡ ask.Hub r
    → Waits (row_of_part side part a)
part_waits side part Nothing r hub = cc
part_waits side part Unready r hub = cc
part_waits side part (Taking link taken) r hub = cc
part_waits side part (Cut link) r hub = tt
part_waits side part (Box link box) r hub = cc

arrived_waits : (phases : List Phase) (part : ℕ) (o : Option Partitions) (r : Request)
    → asked_arrived phases part o ≡ ask.Hub r → Waits (row_arrived phases part o)
arrived_waits phases part None r hub = cc
arrived_waits phases part (Some side) r hub =
    part_waits side part (awaited_of_part side.link (receiving_at phases side.link) part) r hub

call_waits : (site : Site) (hart : ℕ) (memory : Memory) (table : Table) (phases : List Phase) (c : Call) (r : Request)
    → asked_by site memory table phases c ≡ ask.Hub r → Waits (row_of site hart memory table phases c)
call_waits site hart memory table phases (call.Send s) r hub =
    begins_waits memory true purpose.Send (send_of site false s) r hub
call_waits site hart memory table phases (call.Ssend s) r hub =
    begins_waits memory true purpose.Send (send_of site true s) r hub
call_waits site hart memory table phases (call.Recv v status) r hub =
    receives_wait (v.source == no_rank) memory true _ r _ _ tt hub
call_waits site hart memory table phases (call.Isend s) r hub =
    begins_waits memory false purpose.Open (send_of site false s) r hub
call_waits site hart memory table phases (call.Issend s) r hub =
    begins_waits memory false purpose.Open (send_of site true s) r hub
call_waits site hart memory table phases (call.Irecv v) r hub =
    begins_waits memory false purpose.Open (receive_of site v) r hub
call_waits site hart memory table phases (call.Test c) r hub =
    completing_waits phases Immediate c (request_at table c.handle) r hub
call_waits site hart memory table phases (call.Wait c) r hub =
    completing_waits phases Blocking c (request_at table c.handle) r hub
call_waits site hart memory table phases (call.Iprobe p) r hub = either_waits (p.source == no_rank) _ r _ _ tt hub
call_waits site hart memory table phases (call.Probe p) r hub = either_waits (p.source == no_rank) _ r _ _ tt hub
call_waits site hart memory table phases (call.Improbe p) r hub = either_waits (p.source == no_rank) _ r _ _ tt hub
call_waits site hart memory table phases (call.Mprobe p) r hub = either_waits (p.source == no_rank) _ r _ _ tt hub
call_waits site hart memory table phases (call.Imrecv m) r hub =
    claimed_waits (m.message == no_message) m.buffer m.capacity _ r hub
call_waits site hart memory table phases (call.Mrecv m status) r hub =
    either_waits (m.message == no_message) _ r _ _ tt hub
call_waits site hart memory table phases (call.Start handle) r hub =
    starts_waits memory handle (request_at table handle) r hub
call_waits site hart memory table phases (call.Testall s) r hub =
    gathers_waits Immediate s (posts_pending (pendings table (handles_in memory (array_at s.array s.count)))) r hub
call_waits site hart memory table phases (call.Waitall s) r hub =
    gathers_waits Blocking s (posts_pending (pendings table (handles_in memory (array_at s.array s.count)))) r hub
call_waits site hart memory table phases (call.PsendInit t) r hub = tt
call_waits site hart memory table phases (call.PrecvInit t) r hub = tt
call_waits site hart memory table phases (call.Pready handle part) r hub =
    ready_waits site memory part (sending_side (request_at table handle)) r hub
call_waits site hart memory table phases (call.Parrived handle part) r hub =
    arrived_waits phases part (receiving_side (request_at table handle)) r hub
call_waits site hart memory table phases _ r hub = cc

pub turn_waits : (site : Site) (hart : ℕ) (memory : Memory) (table : Table) (phases : List Phase) (d : Doing) (r : Request)
    → asked_in site memory table phases d ≡ ask.Hub r → Waits (row_in site hart memory table phases d)
turn_waits site hart memory table phases (Go c) r hub = call_waits site hart memory table phases c r hub
turn_waits site hart memory table phases (Poll c post) r hub = tt
turn_waits site hart memory table phases _ r hub = cc

-- ---- a refusal by the hub

row_refused : (site : Site) (row : Row) (c : Code) (part : Part) → Waits row
    → told_row site row (answer.Reply (reply.Code c)) part ≡ ended c 0 part
row_refused site (AtOnce o) c part waits = absurd waits
row_refused site (OnBox v) c part waits = absurd waits
row_refused site (OnReply m w) c part waits = refl

pub refused_by_hub : HubRefusalLaw
unfolding told asked
refused_by_hub rank hart request c stamp hub =
    ap (λ (part : Part). with_part rank hart part stamp)
    (row_refused rank.site _ c (part_of rank hart) (turn_waits rank.site hart rank.memory rank.requests rank.phases
    (doing rank.site (part_of rank hart)) request hub))

-- ---- NotYet

-- this part of a rank keeps its memory, requests, phases and output
pub record IsPartKept (old new : Part) : Type 0 where
  pub memory : new.memory ≡ old.memory
  pub requests : new.requests ≡ old.requests
  pub phases : new.phases ≡ old.phases
  pub out : new.out ≡ old.out

pub row_kept : (site : Site) (row : Row) (part : Part) → Waits row
    → IsPartKept part (told_row site row (answer.Reply reply.NotYet) part)
row_kept site (AtOnce o) part waits = absurd waits
row_kept site (OnBox v) part waits = absurd waits
row_kept site (OnReply Immediate w) part waits = record { memory = refl; requests = refl; phases = refl; out = refl }
row_kept site (OnReply Blocking w) part waits = record { memory = refl; requests = refl; phases = refl; out = refl }
row_kept site (OnReply Polling w) part waits = record { memory = refl; requests = refl; phases = refl; out = refl }
row_kept site (OnReply Posting w) part waits = record { memory = refl; requests = refl; phases = refl; out = refl }

pub kept_not_yet_told : NotYetLaw
unfolding told asked
kept_not_yet_told rank hart request stamp hub =
    let kept =
    row_kept rank.site _ (part_of rank hart)
    (turn_waits rank.site hart rank.memory rank.requests rank.phases
    (doing rank.site (part_of rank hart)) request hub) in
    record { memory = kept.memory; requests = kept.requests; phases = kept.phases; out = kept.out }
