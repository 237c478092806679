-- What is asked of the hub names no more posts than a rank has handles.
use Rattle.std.proofs.Common.{◌≡◌, ◌≤◌, ◌+◌, ◌*◌, ℕ, zero, suc, refl, ap, Bool, true, false, List, [], ◌∷◌, length}
use Rattle.std.proofs.Common.{length-append, Option, Some, None, IsTrue, arith}
use Rattle.std.specs.Prelude.{◌==◌, if◌then◌else◌, nat_le}
use Rattle.std.specs.List.{cons_option}
use Rattle.std.proofs.lemmas.List.{length-map}
use Rattle.std.proofs.lemmas.Bool.{leb-true}
use Rattle.rv_memory.specs.Memory.{Memory, value_at}
use Rattle.mp_types.specs.declared.requests.Request.{Request}
use Rattle.mp_types.specs.declared.requests.Request.TheVariants as request
use Rattle.mp_request.specs.declared.entries.OpenRequest.{OpenRequest}
use Rattle.mp_request.specs.declared.entries.Transfer.{Transfer}
use Rattle.mp_request.specs.declared.entries.Transfer.TheVariants.{SendToNull, ReceiveFromNull, Send, Receive}
use Rattle.mp_request.specs.declared.entries.Transfer.TheVariants.{ReceiveClaimed, SendPartitions, ReceivePartitions}
use Rattle.mp_request.specs.Table.{Table, request_at}
use Rattle.cl_calls.specs.declared.calls.Call.{Call}
use Rattle.cl_calls.specs.declared.calls.Call.TheVariants as call
use Rattle.cl_calls.specs.declared.calls.Several.{Several}
use Rattle.cl_calls.specs.declared.sites.Site.{Site}
use Rattle.cl_calls.specs.Calls.{no_rank, no_message}
use Rattle.cl_calls.specs.Checks.{is_few, receiving_side, sending_side}
use Rattle.cl_calls.specs.Handles.{handles_in, words_at}
use Rattle.cl_calls.specs.Needs.{array_at, needs_of}
use Rattle.cl_state.specs.declared.asking.Ask.TheVariants as ask
use Rattle.cl_state.specs.declared.asking.Doing.{Doing}
use Rattle.cl_state.specs.declared.asking.Doing.TheVariants.{Step, Refused, Go, Poll, Stopped}
use Rattle.cl_state.specs.declared.pending.Pending.{Pending}
use Rattle.cl_state.specs.declared.pending.Pending.TheVariants as pending
use Rattle.cl_state.specs.declared.partitions.Awaited.{Awaited}
use Rattle.cl_state.specs.declared.partitions.Awaited.TheVariants.{Nothing, Unready, Taking, Cut, Box}
use Rattle.cl_state.specs.declared.pending.Manner.{Manner}
use Rattle.cl_state.specs.declared.pending.Manner.TheVariants.{Immediate, Blocking, Polling, Posting}
use Rattle.cl_state.specs.Asked.{Part, asked, asked_by, asked_completing, asked_in, asked_poll, asked_several}
use Rattle.cl_state.specs.Asked.{asked_start, doing, part_of}
use Rattle.cl_state.specs.Partitions.{asked_arrived, asked_awaited, asked_ready, awaited, awaited_of_part}
use Rattle.cl_state.proofs.Passed.{HasPassed, passed}
use Rattle.mp_request.specs.declared.entries.Partitions.{Partitions}
use Rattle.part_phase.specs.declared.phases.Phase.{Phase}
use Rattle.part_phase.specs.Phases.{receiving_at}
use Rattle.cl_state_laws.specs.Laws.{PostsLaw}
use Rattle.cl_state.specs.Pending.{asked_pending, pending_of}
use Rattle.cl_state.specs.Several.{asked_all, pendings, post_of, posts_pending}
use Rattle.cl_state.specs.Transfers.{asked_transfer, receive_of, send_of}

words_count : (memory : Memory) (address n : ℕ) → length (words_at memory address n) ≡ n
words_count memory address zero = refl
words_count memory address (suc n) =
    let before = words_count memory address n in
    omega (arith, before, length-append (words_at memory address n) (value_at memory.bytes (address + 8 * n) 8 ∷ []))

one_more : (post : Option ℕ) (posts : List ℕ) (n : ℕ) → length posts ≤ n → length (cons_option post posts) ≤ suc n
one_more None posts n few = omega (arith, few)
one_more (Some post) posts n few = omega (arith, few)

posts_few : (ps : List Pending) → length (posts_pending ps) ≤ length ps
posts_few [] = omega arith
posts_few (p ∷ ps) = one_more (post_of p) (posts_pending ps) (length ps) (posts_few ps)

-- ---- a call that goes on has few handles

abbrev HasFew : Doing → Type 0
HasFew (Go c) = IsTrue (is_few (needs_of c).handles)
HasFew _ = Unit {0}

few_passed : (site : Site) (part : Part) (d : Doing) → HasPassed site part d → HasFew d
few_passed site part (Go c) passed = passed.1.0
few_passed site part Step passed = tt
few_passed site part (Refused code) passed = tt
few_passed site part (Poll c post) passed = tt
few_passed site part Stopped passed = tt

-- ---- TESTALL and WAITALL alone ask for several posts

no_all_transfer : (memory : Memory) (now : Bool) (t : Transfer) (posts : List ℕ)
    → asked_transfer memory now t ≡ ask.Hub (request.All posts) → ⊥
no_all_transfer memory now SendToNull posts hub = cc
no_all_transfer memory now ReceiveFromNull posts hub = cc
no_all_transfer memory now (Send sync buffer count dest tag comm) posts hub = cc
no_all_transfer memory now (Receive buffer capacity source tag comm) posts hub = cc
no_all_transfer memory now (ReceiveClaimed buffer capacity) posts hub = cc
no_all_transfer memory now (SendPartitions side) posts hub = cc
no_all_transfer memory now (ReceivePartitions side) posts hub = cc

no_all_pending : (p : Pending) (posts : List ℕ) → asked_pending p ≡ ask.Hub (request.All posts) → ⊥
no_all_pending pending.Nothing posts hub = cc
no_all_pending pending.FromNull posts hub = cc
no_all_pending (pending.Message post buffer capacity) posts hub = cc
no_all_pending (pending.Word post) posts hub = cc

no_all_if : (local : Bool) (r : Request) (posts : List ℕ) → (r ≡ request.All posts → ⊥)
    → (if local then ask.Local else ask.Hub r) ≡ ask.Hub (request.All posts) → ⊥
no_all_if true r posts other hub = cc
no_all_if false r posts other hub = other (cc)

no_all_start : (memory : Memory) (o : Option OpenRequest) (posts : List ℕ)
    → asked_start memory o ≡ ask.Hub (request.All posts) → ⊥
no_all_start memory None posts hub = cc
no_all_start memory (Some o) posts hub = no_all_transfer memory false o.transfer posts hub

same_posts : (ps posts : List ℕ) → asked_all ps ≡ ask.Hub (request.All posts) → ps ≡ posts
same_posts [] posts hub = cc
same_posts (p ∷ ps) posts hub = cc

few_several : (memory : Memory) (table : Table) (s : Several) (posts : List ℕ) → IsTrue (nat_le s.count 255)
    → asked_several memory table s ≡ ask.Hub (request.All posts) → length posts ≤ 255
few_several memory table s posts few hub =
    let handles : List ℕ = handles_in memory (array_at s.array s.count) in
    let same : posts_pending (pendings table handles) ≡ posts = same_posts _ posts hub in
    let most = posts_few (pendings table handles) in
    let all = length-map handles (λ (handle : ℕ). pending_of (request_at table handle)) in
    let count = words_count memory s.array s.count in
    let below = leb-true s.count 255 few in
    omega (arith, ap length same, most, all, count, below)

-- ---- nor do partitioned requests

no_all_awaited : (m : Manner) (a : Awaited) (posts : List ℕ) → asked_awaited m a ≡ ask.Hub (request.All posts) → ⊥
no_all_awaited m Nothing posts hub = cc
no_all_awaited Immediate Unready posts hub = cc
no_all_awaited Blocking Unready posts hub = cc
no_all_awaited Polling Unready posts hub = cc
no_all_awaited Posting Unready posts hub = cc
no_all_awaited m (Taking link part) posts hub = cc
no_all_awaited m (Cut link) posts hub = cc
no_all_awaited m (Box link box) posts hub = cc

no_all_either : (m : Manner) (o : Option Awaited) (p : Pending) (posts : List ℕ)
    → asked_completing m o p ≡ ask.Hub (request.All posts) → ⊥
no_all_either m None p posts hub = no_all_pending p posts hub
no_all_either m (Some a) p posts hub = no_all_awaited m a posts hub

no_all_completing : (phases : List Phase) (m : Manner) (o : Option OpenRequest) (posts : List ℕ)
    → asked_completing m (awaited phases o) (pending_of o) ≡ ask.Hub (request.All posts) → ⊥
no_all_completing phases m o posts hub = no_all_either m (awaited phases o) (pending_of o) posts hub

no_all_ready : (site : Site) (memory : Memory) (part : ℕ) (o : Option Partitions) (posts : List ℕ)
    → asked_ready site memory part o ≡ ask.Hub (request.All posts) → ⊥
no_all_ready site memory part None posts hub = cc
no_all_ready site memory part (Some side) posts hub = cc

no_all_arrived : (phases : List Phase) (part : ℕ) (o : Option Partitions) (posts : List ℕ)
    → asked_arrived phases part o ≡ ask.Hub (request.All posts) → ⊥
no_all_arrived phases part None posts hub = cc
no_all_arrived phases part (Some side) posts hub =
    no_all_awaited Immediate (awaited_of_part side.link (receiving_at phases side.link) part) posts hub

few_call : (site : Site) (memory : Memory) (table : Table) (phases : List Phase) (c : Call) (posts : List ℕ)
    → HasFew (Go c)
    → asked_by site memory table phases c ≡ ask.Hub (request.All posts) → length posts ≤ 255
few_call site memory table phases (call.Send s) posts few hub =
    absurd (no_all_transfer memory true (send_of site false s) posts hub)
few_call site memory table phases (call.Ssend s) posts few hub =
    absurd (no_all_transfer memory true (send_of site true s) posts hub)
few_call site memory table phases (call.Recv r status) posts few hub =
    absurd (no_all_transfer memory true (receive_of site r) posts hub)
few_call site memory table phases (call.Isend s) posts few hub =
    absurd (no_all_transfer memory false (send_of site false s) posts hub)
few_call site memory table phases (call.Issend s) posts few hub =
    absurd (no_all_transfer memory false (send_of site true s) posts hub)
few_call site memory table phases (call.Irecv r) posts few hub =
    absurd (no_all_transfer memory false (receive_of site r) posts hub)
few_call site memory table phases (call.Test c) posts few hub =
    absurd (no_all_completing phases Immediate (request_at table c.handle) posts hub)
few_call site memory table phases (call.Wait c) posts few hub =
    absurd (no_all_completing phases Blocking (request_at table c.handle) posts hub)
few_call site memory table phases (call.Iprobe p) posts few hub =
    absurd (no_all_if (p.source == no_rank) _ posts (λ same. cc) hub)
few_call site memory table phases (call.Probe p) posts few hub =
    absurd (no_all_if (p.source == no_rank) _ posts (λ same. cc) hub)
few_call site memory table phases (call.Improbe p) posts few hub =
    absurd (no_all_if (p.source == no_rank) _ posts (λ same. cc) hub)
few_call site memory table phases (call.Mprobe p) posts few hub =
    absurd (no_all_if (p.source == no_rank) _ posts (λ same. cc) hub)
few_call site memory table phases (call.Imrecv m) posts few hub =
    absurd (no_all_if (m.message == no_message) _ posts (λ same. cc) hub)
few_call site memory table phases (call.Mrecv m status) posts few hub =
    absurd (no_all_if (m.message == no_message) _ posts (λ same. cc) hub)
few_call site memory table phases (call.Start handle) posts few hub =
    absurd (no_all_start memory (request_at table handle) posts hub)
few_call site memory table phases (call.Testall s) posts few hub = few_several memory table s posts few hub
few_call site memory table phases (call.Waitall s) posts few hub = few_several memory table s posts few hub
few_call site memory table phases (call.Pready handle part) posts few hub =
    absurd (no_all_ready site memory part (sending_side (request_at table handle)) posts hub)
few_call site memory table phases (call.Parrived handle part) posts few hub =
    absurd (no_all_arrived phases part (receiving_side (request_at table handle)) posts hub)
few_call site memory table phases _ posts few hub = cc

no_all_poll : (c : Call) (post : ℕ) (posts : List ℕ) → asked_poll c post ≡ ask.Hub (request.All posts) → ⊥
no_all_poll (call.Ssend s) post posts hub = cc
no_all_poll _ post posts hub = cc

few_turn : (site : Site) (memory : Memory) (table : Table) (phases : List Phase) (d : Doing) (posts : List ℕ)
    → HasFew d → asked_in site memory table phases d ≡ ask.Hub (request.All posts) → length posts ≤ 255
few_turn site memory table phases (Go c) posts few hub = few_call site memory table phases c posts few hub
few_turn site memory table phases (Poll c post) posts few hub = absurd (no_all_poll c post posts hub)
few_turn site memory table phases _ posts few hub = cc

pub at_most_255 : PostsLaw
unfolding asked
at_most_255 rank hart posts hub =
    let d = doing rank.site (part_of rank hart) in
    few_turn rank.site rank.memory rank.requests rank.phases d posts
    (few_passed rank.site (part_of rank hart) d (passed rank.site (part_of rank hart))) hub
