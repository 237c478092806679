-- What a look in vain leaves as it was.
use Rattle.std.proofs.Common.{◌≡◌, ℕ, refl, ap, subst, ◌∙◌, Bool, true, false, List, [], ◌∷◌, Option, Some, None}
use Rattle.std.specs.Prelude.{◌==◌, if◌then◌else◌}
use Rattle.rv_memory.specs.Memory.{Memory}
use Rattle.mp_types.specs.declared.requests.Request.{Request}
use Rattle.mp_types.specs.declared.requests.Request.TheVariants as request
use Rattle.mp_request.specs.declared.entries.State.{State}
use Rattle.mp_request.specs.declared.entries.State.TheVariants.{Ordinary, Inactive, Active}
use Rattle.part_phase.specs.declared.receiving.RecvPhase.{RecvPhase}
use Rattle.part_phase.specs.declared.sending.SendPhase.{SendPhase}
use Rattle.part_phase.specs.Receiving.{next_box, next_box_of}
use Rattle.part_phase.specs.Sending.{next_to_free}
use Rattle.mp_request.specs.declared.entries.OpenRequest.{OpenRequest}
use Rattle.mp_request.specs.declared.entries.Partitions.{Partitions}
use Rattle.mp_request.specs.declared.entries.Transfer.{Transfer}
use Rattle.mp_request.specs.declared.entries.Transfer.TheVariants as transfer
use Rattle.mp_request.specs.Table.{request_at}
use Rattle.part_phase.specs.declared.phases.Phase.{Phase}
use Rattle.part_phase.specs.Phases.{receiving_at, sending_at}
use Rattle.cl_calls.specs.declared.calls.Call.{Call}
use Rattle.cl_calls.specs.declared.calls.Call.TheVariants as call
use Rattle.cl_calls.specs.declared.calls.Completing.{Completing}
use Rattle.cl_calls.specs.declared.sites.Site.{Site}
use Rattle.cl_calls.specs.Calls.{no_rank, no_message}
use Rattle.cl_calls.specs.Checks.{receiving_side, sending_side}
use Rattle.cl_calls.specs.Handles.{handles_in}
use Rattle.cl_calls.specs.Needs.{array_at}
use Rattle.cl_state.specs.declared.asking.Answer.TheVariants as answer
use Rattle.cl_state.specs.declared.asking.Ask.TheVariants as ask
use Rattle.cl_state.specs.declared.asking.Doing.{Doing}
use Rattle.cl_state.specs.declared.asking.Doing.TheVariants.{Step, Refused, Go, Poll, Stopped}
use Rattle.cl_state.specs.declared.partitions.Awaited.{Awaited}
use Rattle.cl_state.specs.declared.partitions.Awaited.TheVariants.{Unready}
use Rattle.cl_state.specs.declared.pending.Manner.{Manner}
use Rattle.cl_state.specs.declared.pending.Manner.TheVariants.{Immediate, Blocking, Polling, Posting}
use Rattle.cl_state.specs.declared.pending.Pending.{Pending}
use Rattle.cl_state.specs.declared.pending.Pending.TheVariants as pending
use Rattle.cl_state.specs.declared.pending.Target.{Target}
use Rattle.cl_state.specs.declared.row.Row.{Row}
use Rattle.cl_state.specs.Asked.{Part, asked, asked_by, asked_completing, asked_in, asked_poll, asked_start, doing}
use Rattle.cl_state.specs.Asked.{part_of}
use Rattle.cl_state.specs.Partitions.{asked_arrived, asked_awaited, asked_ready, awaited, awaited_at, awaited_by}
use Rattle.cl_state.specs.Partitions.{awaited_in, taking_of}
use Rattle.cl_state.proofs.Awaits.{by_awaited, by_taking, row_by, row_is}
use Rattle.cl_state.specs.Pending.{asked_pending, pending_of}
use Rattle.cl_state.specs.Several.{asked_all, pendings, posts_pending}
use Rattle.cl_state.specs.Table.{completing, row_arrived, row_awaited, row_completing, row_in, row_of, row_of_part}
use Rattle.cl_state.specs.Told.{not_yet, told, told_row, with_part}
use Rattle.cl_state.specs.Transfers.{asked_transfer, receive_of, send_of, source_of, tag_of}
use Rattle.cl_state_laws.specs.Laws.{IsLook, MissLaw, missed}

-- ---- a turn that looks at a box has the row of one that is told so by its manner

abbrev pub Looks : Manner → Row → Type 0
Looks m row = (site : Site) (part : Part) → told_row site row answer.Missed part ≡ not_yet m part

pub no_look : (memory : Memory) (now : Bool) (t : Transfer) → IsLook (asked_transfer memory now t) → ⊥
no_look memory now transfer.SendToNull look = look
no_look memory now transfer.ReceiveFromNull look = look
no_look memory now (transfer.Send sync buffer count dest tag comm) look = look
no_look memory now (transfer.Receive buffer capacity source tag comm) look = look
no_look memory now (transfer.ReceiveClaimed buffer capacity) look = look
no_look memory now (transfer.SendPartitions side) look = look
no_look memory now (transfer.ReceivePartitions side) look = look

pub no_look_if : (b : Bool) (r : Request) → IsLook (if b then ask.Local else ask.Hub r) → ⊥
no_look_if true r look = look
no_look_if false r look = look

pub no_look_start : (memory : Memory) (o : Option OpenRequest) → IsLook (asked_start memory o) → ⊥
no_look_start memory None look = look
no_look_start memory (Some r) look = no_look memory false r.transfer look

pub no_look_pending : (p : Pending) → IsLook (asked_pending p) → ⊥
no_look_pending pending.Nothing look = look
no_look_pending pending.FromNull look = look
no_look_pending (pending.Message post buffer capacity) look = look
no_look_pending (pending.Word post) look = look

pub no_look_all : (posts : List ℕ) → IsLook (asked_all posts) → ⊥
no_look_all [] look = look
no_look_all (post ∷ posts) look = look

-- TEST and WAIT of a side, by what is awaited
abbrev pub LooksBy : Manner → Transfer → Target → Awaited → Type 0
LooksBy m t target a = IsLook (asked_awaited m a) → Looks m (row_awaited m t target a)

looks_unready : (m : Manner) (t : Transfer) (target : Target) → LooksBy m t target Unready
looks_unready Immediate t target look = absurd look
looks_unready Blocking t target look = absurd look
looks_unready Polling t target look = absurd look
looks_unready Posting t target look = absurd look

looks_sender : (m : Manner) (side : Partitions) (target : Target) (p : SendPhase)
    → LooksBy m (transfer.SendPartitions side) target (taking_of side.link p (next_to_free p))
looks_sender m side target p =
    by_taking (LooksBy m (transfer.SendPartitions side) target) side.link p (λ look. absurd look)
    (looks_unready m (transfer.SendPartitions side) target) (λ free going next ready look site part. refl)

looks_receiver : (m : Manner) (side : Partitions) (target : Target) (p : RecvPhase) (next : Option ℕ)
    → LooksBy m (transfer.ReceivePartitions side) target (awaited_in side.link p next)
looks_receiver m side target p next =
    by_awaited (LooksBy m (transfer.ReceivePartitions side) target) side.link p next (λ look. absurd look)
    (λ going unknown look. absurd look) (λ box going is look site part. refl)

abbrev pub LooksOf : Manner → Completing → Option Awaited → Transfer → Pending → Type 0
LooksOf m c o t p = IsLook (asked_completing m o p) → Looks m (row_by m c o t p)

looks_by : (phases : List Phase) (m : Manner) (c : Completing) (t : Transfer) (p : Pending)
    → LooksOf m c (awaited_by phases t) t p
looks_by phases m c (transfer.SendPartitions side) p look =
    looks_sender m side (completing m c 0 0) (sending_at phases side.link) look
looks_by phases m c (transfer.ReceivePartitions side) p look =
    looks_receiver m side (completing m c 0 0) (receiving_at phases side.link)
    (next_box (receiving_at phases side.link)) look
looks_by phases m c transfer.SendToNull p look = absurd (no_look_pending p look)
looks_by phases m c transfer.ReceiveFromNull p look = absurd (no_look_pending p look)
looks_by phases m c (transfer.Send sync buffer count dest tag comm) p look = absurd (no_look_pending p look)
looks_by phases m c (transfer.Receive buffer capacity source tag comm) p look = absurd (no_look_pending p look)
looks_by phases m c (transfer.ReceiveClaimed buffer capacity) p look = absurd (no_look_pending p look)

looks_at : (phases : List Phase) (m : Manner) (c : Completing) (s : State) (t : Transfer) (p : Pending)
    → LooksOf m c (awaited_at phases s t) t p
looks_at phases m c Inactive t p look = absurd (no_look_pending p look)
looks_at phases m c (Ordinary progress) t p look = looks_by phases m c t p look
looks_at phases m c (Active progress) t p look = looks_by phases m c t p look

looks_completing : (phases : List Phase) (m : Manner) (c : Completing) (o : Option OpenRequest)
    → IsLook (asked_completing m (awaited phases o) (pending_of o)) → Looks m (row_completing m c (awaited phases o) o)
looks_completing phases m c None look = absurd look
looks_completing phases m c (Some r) look =
    subst (λ (row : Row). Looks m row) (row_is m c (awaited phases (Some r)) r)
    (looks_at phases m c r.state r.transfer (pending_of (Some r)) look)

pub no_look_ready : (site : Site) (memory : Memory) (part : ℕ) (o : Option Partitions)
    → IsLook (asked_ready site memory part o) → ⊥
no_look_ready site memory part None look = look
no_look_ready site memory part (Some side) look = look

looks_arrived : (phases : List Phase) (part : ℕ) (o : Option Partitions) → IsLook (asked_arrived phases part o)
    → Looks Immediate (row_arrived phases part o)
looks_arrived phases part None look = absurd look
looks_arrived phases part (Some side) look =
    by_awaited (λ a. IsLook (asked_awaited Immediate a) → Looks Immediate (row_of_part side part a)) side.link
    (receiving_at phases side.link) (next_box_of (receiving_at phases side.link) part) (λ look. absurd look)
    (λ going unknown look. absurd look) (λ box going is look site part. refl) look

-- ---- a turn

-- the manner of a call that looks at a box
abbrev pub manner_of : Doing → Manner
manner_of (Go (call.Wait c)) = Blocking
manner_of _ = Immediate

looks_call : (site : Site) (hart : ℕ) (part : Part) (c : Call)
    → IsLook (asked_by site part.memory part.requests part.phases c)
    → Looks (manner_of (Go c)) (row_of site hart part.memory part.requests part.phases c)
looks_call site hart part (call.Test c) look =
    looks_completing part.phases Immediate c (request_at part.requests c.handle) look
looks_call site hart part (call.Wait c) look =
    looks_completing part.phases Blocking c (request_at part.requests c.handle) look
looks_call site hart part (call.Parrived handle asked) look =
    looks_arrived part.phases asked (receiving_side (request_at part.requests handle)) look
looks_call site hart part (call.Pready handle ready) look =
    absurd (no_look_ready site part.memory ready (sending_side (request_at part.requests handle)) look)
looks_call site hart part (call.Send s) look = absurd (no_look part.memory true (send_of site false s) look)
looks_call site hart part (call.Ssend s) look = absurd (no_look part.memory true (send_of site true s) look)
looks_call site hart part (call.Recv r status) look = absurd (no_look part.memory true (receive_of site r) look)
looks_call site hart part (call.Isend s) look = absurd (no_look part.memory false (send_of site false s) look)
looks_call site hart part (call.Issend s) look = absurd (no_look part.memory false (send_of site true s) look)
looks_call site hart part (call.Irecv r) look = absurd (no_look part.memory false (receive_of site r) look)
looks_call site hart part (call.Iprobe p) look =
    absurd (no_look_if (p.source == no_rank)
    (request.Probe p.comm (source_of site p.comm p.source) (tag_of p.tag)) look)
looks_call site hart part (call.Probe p) look =
    absurd (no_look_if (p.source == no_rank)
    (request.Probe p.comm (source_of site p.comm p.source) (tag_of p.tag)) look)
looks_call site hart part (call.Improbe p) look =
    absurd (no_look_if (p.source == no_rank)
    (request.Claim p.comm (source_of site p.comm p.source) (tag_of p.tag)) look)
looks_call site hart part (call.Mprobe p) look =
    absurd (no_look_if (p.source == no_rank)
    (request.Claim p.comm (source_of site p.comm p.source) (tag_of p.tag)) look)
looks_call site hart part (call.Imrecv m) look =
    absurd (no_look_if (m.message == no_message) (request.Claimed false m.message) look)
looks_call site hart part (call.Mrecv m status) look =
    absurd (no_look_if (m.message == no_message) (request.Claimed true m.message) look)
looks_call site hart part (call.Start handle) look =
    absurd (no_look_start part.memory (request_at part.requests handle) look)
looks_call site hart part (call.Testall s) look =
    absurd (no_look_all (posts_pending (pendings part.requests (handles_in part.memory (array_at s.array s.count)))) look)
looks_call site hart part (call.Waitall s) look =
    absurd (no_look_all (posts_pending (pendings part.requests (handles_in part.memory (array_at s.array s.count)))) look)
looks_call site hart part _ look = absurd look

pub no_look_poll : (c : Call) (post : ℕ) → IsLook (asked_poll c post) → ⊥
no_look_poll (call.Ssend s) post look = look
no_look_poll _ post look = look

looks_turn : (site : Site) (hart : ℕ) (part : Part) (d : Doing)
    → IsLook (asked_in site part.memory part.requests part.phases d)
    → Looks (manner_of d) (row_in site hart part.memory part.requests part.phases d)
looks_turn site hart part Step look = absurd look
looks_turn site hart part (Refused c) look = absurd look
looks_turn site hart part (Go c) look = looks_call site hart part c look
looks_turn site hart part (Poll c post) look = absurd (no_look_poll c post look)
looks_turn site hart part Stopped look = absurd look

not_yet_is : (d : Doing) (part : Part) → not_yet (manner_of d) part ≡ record part { hart = missed d part.hart }
not_yet_is Step part = refl
not_yet_is (Refused c) part = refl
not_yet_is (Go (call.Wait c)) part = refl
not_yet_is (Go _) part = refl
not_yet_is (Poll c post) part = refl
not_yet_is Stopped part = refl

pub missed_in_vain : MissLaw
unfolding told asked
missed_in_vain rank hart stamp look =
    let d = doing rank.site (part_of rank hart) in
    ap (λ (part : Part). with_part rank hart part stamp)
    (looks_turn rank.site hart (part_of rank hart) d look rank.site (part_of rank hart)
    ∙ not_yet_is d (part_of rank hart))
