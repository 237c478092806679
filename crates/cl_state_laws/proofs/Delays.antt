-- What a hart is left with whose call the hub can't complete yet.
use Rattle.std.proofs.Common.{◌≡◌, ℕ, Bool, true, false, refl, ap, ◌∙◌, List, [], ◌∷◌, Option, Some, None}
use Rattle.std.specs.Prelude.{◌==◌, if◌then◌else◌}
use Rattle.std.proofs.lemmas.List.{get_or-set_same}
use Rattle.rv_memory.specs.Memory.{Memory}
use Rattle.rv_hart.specs.State.{State, in_mode}
use Rattle.rv_hart.specs.declared.state.Mode.TheVariants.{Waiting}
use Rattle.rv_hart.specs.declared.state.Wait.TheVariants.{Again}
use Rattle.mp_types.specs.declared.codes.Code.TheVariants as code
use Rattle.mp_types.specs.declared.replies.Reply.TheVariants as reply
use Rattle.mp_types.specs.declared.requests.Request.{Request}
use Rattle.mp_request.specs.declared.entries.OpenRequest.{OpenRequest}
use Rattle.mp_request.specs.declared.entries.Partitions.{Partitions}
use Rattle.mp_request.specs.declared.entries.Transfer.{Transfer}
use Rattle.mp_request.specs.declared.entries.Transfer.TheVariants as transfer
use Rattle.mp_request.specs.Table.{Table, request_at}
use Rattle.part_phase.specs.declared.phases.Phase.{Phase}
use Rattle.part_phase.specs.Phases.{receiving_at}
use Rattle.cl_calls.specs.declared.calls.Call.{Call}
use Rattle.cl_calls.specs.declared.calls.Call.TheVariants as call
use Rattle.cl_calls.specs.declared.calls.Completing.{Completing}
use Rattle.cl_calls.specs.declared.calls.Several.{Several}
use Rattle.cl_calls.specs.declared.sites.Site.{Site}
use Rattle.cl_calls.specs.Checks.{receiving_side, sending_side}
use Rattle.cl_calls.specs.Calls.{no_rank, no_message}
use Rattle.cl_calls.specs.Handles.{handles_in}
use Rattle.cl_calls.specs.Needs.{array_at}
use Rattle.cl_state.specs.declared.asking.Answer.TheVariants as answer
use Rattle.cl_state.specs.declared.asking.Ask.TheVariants as ask
use Rattle.cl_state.specs.declared.asking.Doing.{Doing}
use Rattle.cl_state.specs.declared.asking.Doing.TheVariants.{Step, Refused, Go, Poll, Stopped}
use Rattle.cl_state.specs.declared.partitions.Awaited.{Awaited}
use Rattle.cl_state.specs.declared.partitions.Awaited.TheVariants as awaits
use Rattle.cl_state.specs.declared.pending.Manner.{Manner}
use Rattle.cl_state.specs.declared.pending.Manner.TheVariants.{Immediate, Blocking, Posting, Polling}
use Rattle.cl_state.specs.declared.pending.Pending.{Pending}
use Rattle.cl_state.specs.declared.pending.Pending.TheVariants as pending
use Rattle.cl_state.specs.declared.pending.Target.{Target}
use Rattle.cl_state.specs.declared.row.Purpose.{Purpose}
use Rattle.cl_state.specs.declared.row.Purpose.TheVariants as purpose
use Rattle.cl_state.specs.declared.row.Row.{Row}
use Rattle.cl_state.specs.declared.row.Row.TheVariants.{AtOnce, OnReply, OnBox}
use Rattle.cl_state.specs.Asked.{Part, no_hart, part_of, doing, asked, asked_in}
use Rattle.cl_state.specs.Partitions.{awaited_of_part}
use Rattle.cl_state.specs.Pending.{pending_of}
use Rattle.cl_state.specs.Rank.{Rank}
use Rattle.cl_state.specs.Several.{pendings, posts_pending}
use Rattle.cl_state.specs.Table.{begins, begins_phase, starts, completes, completing, takes, row_awaited, row_completing, row_ready, row_of_part, row_arrived, gathers, row_of}
use Rattle.cl_state.specs.Told.{returned, told, told_in, told_row}
use Rattle.cl_state.specs.Transfers.{send_of, receive_of, claimed_of}
use Rattle.cl_state_laws.specs.Leaves.{delayed, DelayLaw}
use Rattle.cl_state_laws.proofs.Replies.{Waits, turn_waits}

-- a row that waits for a reply waits in this manner
abbrev HasManner : Manner → Row → Type 0
HasManner m (AtOnce o) = Unit {0}
HasManner m (OnReply n w) = n ≡ m
HasManner m (OnBox v) = Unit {0}

-- what a hart is left with by each manner
abbrev left_by : Manner → State → State
left_by Immediate hart = returned code.Ok 0 hart
left_by Blocking hart = in_mode hart (Waiting Again)
left_by Polling hart = hart
left_by Posting hart = returned code.BadRequest 0 hart

told_by : (n : Manner) (site : Site) (row : Row) (part : Part) → Waits row → HasManner n row
    → (told_row site row (answer.Reply reply.NotYet) part).hart ≡ left_by n part.hart
told_by n site (AtOnce o) part waits manner = absurd waits
told_by n site (OnBox v) part waits manner = absurd waits
told_by n site (OnReply m w) part waits manner = go m manner
  where
    go : (m : Manner) → m ≡ n
        → (told_row site (OnReply m w) (answer.Reply reply.NotYet) part).hart ≡ left_by n part.hart
    go Immediate e = ap (λ k. left_by k part.hart) e
    go Blocking e = ap (λ k. left_by k part.hart) e
    go Polling e = ap (λ k. left_by k part.hart) e
    go Posting e = ap (λ k. left_by k part.hart) e

-- ---- the manner of each call

if_manner : (m : Manner) (b : Bool) (x y : Row) → HasManner m x → HasManner m y → HasManner m (if b then x else y)
if_manner m true x y p q = p
if_manner m false x y p q = q

phase_manner : (m : Manner) (why : Purpose) (link : ℕ) → HasManner m (begins_phase why link)
phase_manner m purpose.Send link = tt
phase_manner m purpose.Open link = tt
phase_manner m (purpose.Start handle) link = tt

begins_manner : (why : Purpose) (t : Transfer) → HasManner Posting (begins why t)
begins_manner why transfer.SendToNull = tt
begins_manner why transfer.ReceiveFromNull = tt
begins_manner why (transfer.SendPartitions side) = phase_manner Posting why side.link
begins_manner why (transfer.ReceivePartitions side) = phase_manner Posting why side.link
begins_manner why _ = refl

starts_manner : (handle : ℕ) (o : Option OpenRequest) → HasManner Posting (starts handle o)
starts_manner handle None = tt
starts_manner handle (Some r) = begins_manner (purpose.Start handle) r.transfer

completes_manner : (m : Manner) (c : Completing) (p : Pending) → HasManner m (completes m c p)
completes_manner m c pending.Nothing = tt
completes_manner m c pending.FromNull = tt
completes_manner m c (pending.Message post buffer capacity) = refl
completes_manner m c (pending.Word post) = refl

takes_manner : (m : Manner) (t : Transfer) (box : ℕ) (target : Target) → HasManner m (takes m t box target)
takes_manner m (transfer.ReceivePartitions side) box target = tt
takes_manner m _ box target = tt

awaited_manner : (m : Manner) (t : Transfer) (target : Target) (a : Awaited) → HasManner m (row_awaited m t target a)
awaited_manner m t target awaits.Nothing = tt
awaited_manner m t target awaits.Unready = tt
awaited_manner m t target (awaits.Taking link part) = tt
awaited_manner m t target (awaits.Cut link) = refl
awaited_manner m t target (awaits.Box link box) = takes_manner m t box target

completing_manner : (m : Manner) (c : Completing) (a : Option Awaited) (o : Option OpenRequest)
    → HasManner m (row_completing m c a o)
completing_manner m c (Some a) (Some r) = awaited_manner m r.transfer (completing m c 0 0) a
completing_manner m c (Some a) None = completes_manner m c (pending_of None)
completing_manner m c None o = completes_manner m c (pending_of o)

part_manner : (side : Partitions) (part : ℕ) (a : Awaited) → HasManner Immediate (row_of_part side part a)
part_manner side part (awaits.Cut link) = refl
part_manner side part (awaits.Box link box) = tt
part_manner side part _ = tt

arrived_manner : (phases : List Phase) (part : ℕ) (o : Option Partitions)
    → HasManner Immediate (row_arrived phases part o)
arrived_manner phases part None = tt
arrived_manner phases part (Some side) =
    part_manner side part (awaited_of_part side.link (receiving_at phases side.link) part)

gathers_manner : (m : Manner) (s : Several) (posts : List ℕ) → HasManner m (gathers m s posts)
gathers_manner m s [] = tt
gathers_manner m s (post ∷ posts) = refl

-- the row of the call leaves the hart so, where it waits for a reply
abbrev IsDelayed : Site → Row → Part → State → Type 0
IsDelayed site row part hart = (told_row site row (answer.Reply reply.NotYet) part).hart ≡ hart

call_delayed : (site : Site) (hart : ℕ) (memory : Memory) (table : Table) (phases : List Phase) (c : Call) (part : Part)
    → Waits (row_of site hart memory table phases c)
    → IsDelayed site (row_of site hart memory table phases c) part (delayed (Go c) part.hart)
call_delayed site hart memory table phases (call.Send s) part waits =
    told_by Posting site _ part waits (begins_manner purpose.Send (send_of site false s))
call_delayed site hart memory table phases (call.Ssend s) part waits =
    told_by Posting site _ part waits (begins_manner purpose.Send (send_of site true s))
call_delayed site hart memory table phases (call.Recv r status) part waits =
    told_by Posting site _ part waits (if_manner Posting (r.source == no_rank) _ _ tt refl)
call_delayed site hart memory table phases (call.Isend s) part waits =
    told_by Posting site _ part waits (begins_manner purpose.Open (send_of site false s))
call_delayed site hart memory table phases (call.Issend s) part waits =
    told_by Posting site _ part waits (begins_manner purpose.Open (send_of site true s))
call_delayed site hart memory table phases (call.Irecv r) part waits =
    told_by Posting site _ part waits (begins_manner purpose.Open (receive_of site r))
call_delayed site hart memory table phases (call.Test c) part waits =
    told_by Immediate site _ part waits (completing_manner Immediate c _ (request_at table c.handle))
call_delayed site hart memory table phases (call.Wait c) part waits =
    told_by Blocking site _ part waits (completing_manner Blocking c _ (request_at table c.handle))
call_delayed site hart memory table phases (call.Iprobe p) part waits =
    told_by Immediate site _ part waits (if_manner Immediate (p.source == no_rank) _ _ tt refl)
call_delayed site hart memory table phases (call.Probe p) part waits =
    told_by Blocking site _ part waits (if_manner Blocking (p.source == no_rank) _ _ tt refl)
call_delayed site hart memory table phases (call.Improbe p) part waits =
    told_by Immediate site _ part waits (if_manner Immediate (p.source == no_rank) _ _ tt refl)
call_delayed site hart memory table phases (call.Mprobe p) part waits =
    told_by Blocking site _ part waits (if_manner Blocking (p.source == no_rank) _ _ tt refl)
call_delayed site hart memory table phases (call.Imrecv m) part waits =
    told_by Posting site _ part waits (begins_manner purpose.Open (claimed_of m))
call_delayed site hart memory table phases (call.Mrecv m status) part waits =
    told_by Posting site _ part waits (if_manner Posting (m.message == no_message) _ _ tt refl)
call_delayed site hart memory table phases (call.Start handle) part waits =
    told_by Posting site _ part waits (starts_manner handle (request_at table handle))
call_delayed site hart memory table phases (call.Testall s) part waits =
    told_by Immediate site _ part waits
    (gathers_manner Immediate s (posts_pending (pendings table (handles_in memory (array_at s.array s.count)))))
call_delayed site hart memory table phases (call.Waitall s) part waits =
    told_by Blocking site _ part waits
    (gathers_manner Blocking s (posts_pending (pendings table (handles_in memory (array_at s.array s.count)))))
call_delayed site hart memory table phases (call.PsendInit t) part waits = refl
call_delayed site hart memory table phases (call.PrecvInit t) part waits = refl
call_delayed site hart memory table phases (call.Pready handle part_number) part waits =
    told_by Posting site _ part waits (ready (sending_side (request_at table handle)))
  where
    ready : (o : Option Partitions) → HasManner Posting (row_ready part_number o)
    ready None = tt
    ready (Some side) = tt
call_delayed site hart memory table phases (call.Parrived handle part_number) part waits =
    told_by Immediate site _ part waits
    (arrived_manner phases part_number (receiving_side (request_at table handle)))
call_delayed site hart memory table phases _ part waits = absurd waits

pub turn_delayed : (rank : Rank) (hart : ℕ) (d : Doing) (r : Request)
    → asked_in rank.site rank.memory rank.requests rank.phases d ≡ ask.Hub r
    → (told_in rank.site hart d (answer.Reply reply.NotYet) (part_of rank hart)).hart
    ≡ delayed d (part_of rank hart).hart
turn_delayed rank hart (Go c) r hub =
    call_delayed rank.site hart rank.memory rank.requests rank.phases c (part_of rank hart)
    (turn_waits rank.site hart rank.memory rank.requests rank.phases (Go c) r hub)
turn_delayed rank hart (Poll c post) r hub = refl
turn_delayed rank hart Step r hub = absurd (cc)
turn_delayed rank hart (Refused c) r hub = absurd (cc)
turn_delayed rank hart Stopped r hub = absurd (cc)

pub delay_law : DelayLaw
unfolding told asked
delay_law rank hart request stamp hub there =
    get_or-set_same rank.harts hart
    (told_in rank.site hart (doing rank.site (part_of rank hart)) (answer.Reply reply.NotYet) (part_of rank hart)).hart
    no_hart there
    ∙ turn_delayed rank hart (doing rank.site (part_of rank hart)) request hub
