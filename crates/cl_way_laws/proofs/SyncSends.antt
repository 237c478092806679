-- Calls that send synchronously: SSEND, ISSEND, and START of such a request.
use Rattle.std.proofs.Common.{◌≡◌, ◌∙◌, ℕ, ◌⊎◌, inl, inr, refl, sym, ap, subst, Bool, true, false, List, [], ◌∷◌, Option, Some, None}
use Rattle.std.specs.Prelude.{◌==◌, cond, if◌then◌else◌}
use Rattle.std.specs.Option.{option_map}
use Rattle.rv_memory.specs.Memory.{Memory}
use Rattle.mp_types.specs.declared.codes.Code.TheVariants as code
use Rattle.mp_types.specs.declared.replies.Reply.TheVariants as reply
use Rattle.mp_types.specs.declared.requests.Request.TheVariants as request
use Rattle.mp_request.specs.declared.entries.OpenRequest.{OpenRequest}
use Rattle.mp_request.specs.declared.entries.Partitions.{Partitions}
use Rattle.mp_request.specs.declared.entries.Progress.TheVariants.{Finished, OnPost}
use Rattle.mp_request.specs.declared.entries.State.TheVariants.{Ordinary, Active}
use Rattle.mp_request.specs.declared.entries.Transfer.{Transfer}
use Rattle.mp_request.specs.declared.entries.Transfer.TheVariants as transfer
use Rattle.mp_request.specs.Entries.{active_with}
use Rattle.mp_request.specs.Table.{Table, request_at, with_request}
use Rattle.part_phase.specs.declared.phases.Phase.{Phase}
use Rattle.part_phase.specs.Phases.{receiving_at}
use Rattle.cl_calls.specs.declared.calls.Call.{Call}
use Rattle.cl_calls.specs.declared.calls.Call.TheVariants as call
use Rattle.cl_calls.specs.declared.calls.Sending.{Sending}
use Rattle.cl_calls.specs.declared.sites.Site.{Site}
use Rattle.cl_calls.specs.Calls.{no_message, no_rank}
use Rattle.cl_calls.specs.Checks.{receiving_side, sending_side}
use Rattle.cl_calls.specs.Handles.{handles_in}
use Rattle.cl_calls.specs.Needs.{array_at}
use Rattle.cl_calls.specs.Site.{member}
use Rattle.cl_state.specs.declared.asking.Answer.TheVariants as answer
use Rattle.cl_state.specs.declared.asking.Ask.{Ask}
use Rattle.cl_state.specs.declared.asking.Doing.{Doing}
use Rattle.cl_state.specs.declared.asking.Doing.TheVariants.{Step, Refused, Go, Poll, Stopped}
use Rattle.cl_state.specs.declared.partitions.Awaited.{Awaited}
use Rattle.cl_state.specs.declared.partitions.Awaited.TheVariants as awaited_word
use Rattle.cl_state.specs.declared.pending.Manner.{Manner}
use Rattle.cl_state.specs.declared.pending.Manner.TheVariants.{Immediate, Blocking, Posting, Polling}
use Rattle.cl_state.specs.declared.pending.Pending.{Pending}
use Rattle.cl_state.specs.declared.pending.Pending.TheVariants as pending
use Rattle.cl_state.specs.declared.row.Purpose.TheVariants as purpose
use Rattle.cl_state.specs.declared.row.Row.{Row}
use Rattle.cl_state.specs.Asked.{Part, asked, asked_by, asked_completing, asked_in, asked_poll, asked_start, doing, part_of}
use Rattle.cl_state.specs.Partitions.{asked_arrived, asked_awaited, asked_ready, awaited, awaited_of_part}
use Rattle.cl_state.specs.Pending.{pending_of}
use Rattle.cl_state.specs.Rank.{Rank}
use Rattle.cl_state.specs.Several.{asked_all, pendings, posts_pending}
use Rattle.cl_state.specs.Table.{begins, row_in, starts}
use Rattle.cl_state.specs.Told.{told, told_row, with_part}
use Rattle.cl_state.specs.Transfers.{asked_transfer, source_of, tag_of}
use Rattle.cl_names_laws.proofs.Told.{row_at}
use Rattle.cl_post_laws.proofs.Renamed.{by_row}
use Rattle.cl_way_laws.specs.Met.{met_by, met_open, met_table}
use Rattle.cl_way_laws.proofs.MetAsks.{DoesSame, met_part}
use Rattle.cl_way_laws.proofs.MetRows.{row_at_met, row_met, with_met}
use Rattle.cl_way_laws.proofs.MetTables.{request_met, with_met as table_with_met}
use Rattle.cl_way_laws.proofs.MetTold.{ends_with, opens_by}

-- what sends synchronously
abbrev pub SendsNow : Ask → Type 0
SendsNow (Ask.Hub (request.Send true comm dest tag bytes)) = Unit {0}
SendsNow _ = ⊥

-- a send that returns once its receive has begun (MPI 4.1, 3.4)
abbrev pub IsSsend : Doing → Type 0
IsSsend (Go (call.Ssend s)) = Unit {0}
IsSsend _ = ⊥

-- one that returns at once, and leaves a request (3.7.2 and 3.9)
abbrev pub LeavesRequest : Doing → Type 0
LeavesRequest (Go (call.Issend s)) = Unit {0}
LeavesRequest (Go (call.Start handle)) = Unit {0}
LeavesRequest _ = ⊥

abbrev pub IsSync : Doing → Type 0
IsSync (Go (call.Ssend s)) = Unit {0}
IsSync (Go (call.Issend s)) = Unit {0}
IsSync (Go (call.Start handle)) = Unit {0}
IsSync _ = ⊥

-- ---- no other call sends so

module _ (site : Site) (memory : Memory) (table : Table) (phases : List Phase) where
  if_none : (b : Bool) (x y : Ask) → (SendsNow x → ⊥) → (SendsNow y → ⊥) → SendsNow (if b then x else y) → ⊥
  if_none true x y one two is = one is
  if_none false x y one two is = two is

  transfer_none : (now b : Bool) (t u : Transfer) → (SendsNow (asked_transfer memory now t) → ⊥)
      → (SendsNow (asked_transfer memory now u) → ⊥) → SendsNow (asked_transfer memory now (if b then t else u)) → ⊥
  transfer_none now true t u one two is = one is
  transfer_none now false t u one two is = two is

  awaited_none : (m : Manner) (a : Awaited) → SendsNow (asked_awaited m a) → ⊥
  awaited_none m awaited_word.Nothing is = is
  awaited_none Immediate awaited_word.Unready is = is
  awaited_none Blocking awaited_word.Unready is = is
  awaited_none Polling awaited_word.Unready is = is
  awaited_none Posting awaited_word.Unready is = is
  awaited_none m (awaited_word.Taking link part) is = is
  awaited_none m (awaited_word.Cut link) is = is
  awaited_none m (awaited_word.Box link box) is = is

  completing_none : (m : Manner) (a : Option Awaited) (p : Pending) → SendsNow (asked_completing m a p) → ⊥
  completing_none m (Some a) p is = awaited_none m a is
  completing_none m None pending.Nothing is = is
  completing_none m None pending.FromNull is = is
  completing_none m None (pending.Message post buffer capacity) is = is
  completing_none m None (pending.Word post) is = is

  several_none : (posts : List ℕ) → SendsNow (asked_all posts) → ⊥
  several_none [] is = is
  several_none (post ∷ posts) is = is

  arrived_none : (part : ℕ) (o : Option Partitions) → SendsNow (asked_arrived phases part o) → ⊥
  arrived_none part None is = is
  arrived_none part (Some side) is =
      awaited_none Immediate (awaited_of_part side.link (receiving_at phases side.link) part) is

  ready_none : (part : ℕ) (o : Option Partitions) → SendsNow (asked_ready site memory part o) → ⊥
  ready_none part None is = is
  ready_none part (Some side) is = is

  call_sync : (c : Call) → SendsNow (asked_by site memory table phases c) → IsSync (Go c)
  call_sync (call.Ssend s) is = tt
  call_sync (call.Issend s) is = tt
  call_sync (call.Start handle) is = tt
  call_sync (call.Send s) is =
      absurd (transfer_none true (s.dest == no_rank) transfer.SendToNull
      (transfer.Send false s.buffer s.count (member site s.comm s.dest) s.tag s.comm) (λ k. k) (λ k. k) is)
  call_sync (call.Isend s) is =
      absurd (transfer_none false (s.dest == no_rank) transfer.SendToNull
      (transfer.Send false s.buffer s.count (member site s.comm s.dest) s.tag s.comm) (λ k. k) (λ k. k) is)
  call_sync (call.Recv r status) is =
      absurd (transfer_none true (r.source == no_rank) transfer.ReceiveFromNull
      (transfer.Receive r.buffer r.capacity (source_of site r.comm r.source) (tag_of r.tag) r.comm) (λ k. k) (λ k. k) is)
  call_sync (call.Irecv r) is =
      absurd (transfer_none false (r.source == no_rank) transfer.ReceiveFromNull
      (transfer.Receive r.buffer r.capacity (source_of site r.comm r.source) (tag_of r.tag) r.comm) (λ k. k) (λ k. k) is)
  call_sync (call.Test c) is =
      absurd (completing_none Immediate (awaited phases (request_at table c.handle))
      (pending_of (request_at table c.handle)) is)
  call_sync (call.Wait c) is =
      absurd (completing_none Blocking (awaited phases (request_at table c.handle))
      (pending_of (request_at table c.handle)) is)
  call_sync (call.Iprobe p) is =
      absurd (if_none (p.source == no_rank) Ask.Local
      (Ask.Hub (request.Probe p.comm (source_of site p.comm p.source) (tag_of p.tag))) (λ k. k) (λ k. k) is)
  call_sync (call.Probe p) is =
      absurd (if_none (p.source == no_rank) Ask.Local
      (Ask.Hub (request.Probe p.comm (source_of site p.comm p.source) (tag_of p.tag))) (λ k. k) (λ k. k) is)
  call_sync (call.Improbe p) is =
      absurd (if_none (p.source == no_rank) Ask.Local
      (Ask.Hub (request.Claim p.comm (source_of site p.comm p.source) (tag_of p.tag))) (λ k. k) (λ k. k) is)
  call_sync (call.Mprobe p) is =
      absurd (if_none (p.source == no_rank) Ask.Local
      (Ask.Hub (request.Claim p.comm (source_of site p.comm p.source) (tag_of p.tag))) (λ k. k) (λ k. k) is)
  call_sync (call.Imrecv m) is =
      absurd (if_none (m.message == no_message) Ask.Local (Ask.Hub (request.Claimed false m.message)) (λ k. k) (λ k. k) is)
  call_sync (call.Mrecv m status) is =
      absurd (if_none (m.message == no_message) Ask.Local (Ask.Hub (request.Claimed true m.message)) (λ k. k) (λ k. k) is)
  call_sync (call.Testall s) is =
      absurd (several_none (posts_pending (pendings table (handles_in memory (array_at s.array s.count)))) is)
  call_sync (call.Waitall s) is =
      absurd (several_none (posts_pending (pendings table (handles_in memory (array_at s.array s.count)))) is)
  call_sync (call.Pready handle part) is = absurd (ready_none part (sending_side (request_at table handle)) is)
  call_sync (call.Parrived handle part) is = absurd (arrived_none part (receiving_side (request_at table handle)) is)
  call_sync _ is = absurd is

  poll_none : (c : Call) (post : ℕ) → SendsNow (asked_poll c post) → ⊥
  poll_none (call.Ssend s) post is = is
  poll_none _ post is = is

  pub is_sync : (does : Doing) → SendsNow (asked_in site memory table phases does) → IsSync does
  is_sync (Go c) is = call_sync c is
  is_sync (Poll c post) is = absurd (poll_none c post is)
  is_sync Step is = absurd is
  is_sync (Refused c) is = absurd is
  is_sync Stopped is = absurd is

pub sync_of : (rank : Rank) (hart : ℕ) → SendsNow (asked rank hart) → IsSync (doing rank.site (part_of rank hart))
unfolding asked
sync_of rank hart is = is_sync rank.site rank.memory rank.requests rank.phases (doing rank.site (part_of rank hart)) is

pub ssend_or_leaves : (does : Doing) → IsSync does → IsSsend does ⊎ LeavesRequest does
ssend_or_leaves (Go (call.Ssend s)) is = inl tt
ssend_or_leaves (Go (call.Issend s)) is = inr tt
ssend_or_leaves (Go (call.Start handle)) is = inr tt
ssend_or_leaves _ is = absurd is

-- ---- a request that is left, whose receive was posted before

module _ (d : ℕ → Bool) (n : ℕ) (is_met : d n ≡ true) where
  abbrev Leaves : Site → Row → Part → Type 0
  Leaves site row part =
      told_row site row (answer.Reply (reply.Posted n true)) (met_part d part)
      ≡ met_part d (told_row site row (answer.Reply (reply.Posted n false)) part)

  begins_met : (site : Site) (buffer count dest tag comm : ℕ) (part : Part)
      → Leaves site (begins purpose.Open (transfer.Send true buffer count dest tag comm)) part
  begins_met site buffer count dest tag comm part =
      opens_by d _ _ part
      (ap (λ b. (let r : OpenRequest = record {
        transfer = transfer.Send true buffer count dest tag comm;
        state = Ordinary (cond b Finished (OnPost n));
      } in r)) is_met)

  starts_met : (site : Site) (handle : ℕ) (part : Part) (r : OpenRequest) (t : Transfer) (memory : Memory)
      → request_at part.requests handle ≡ Some r → r.transfer ≡ t → SendsNow (asked_transfer memory false t)
      → Leaves site (begins (purpose.Start handle) t) part
  starts_met site handle part r (transfer.Send true buffer count dest tag comm) memory there is sends =
      ends_with d code.Ok 0 part.hart part.memory _ _ part.phases part.out
      (ap (λ o. with_request (met_table d part.requests) handle (option_map (active_with Finished) o))
      (request_met d part.requests handle)
      ∙ ap (with_request (met_table d part.requests) handle) (one (request_at part.requests handle) there)
      ∙ table_with_met d part.requests handle (option_map (active_with (OnPost n)) (request_at part.requests handle)))
    where
      of_send : (u : Transfer) → u ≡ transfer.Send true buffer count dest tag comm
          → met_open d (record { transfer = u; state = Active (OnPost n) })
          ≡ record { transfer = u; state = Active Finished }
      of_send u e =
          subst (λ u. met_open d (record { transfer = u; state = Active (OnPost n) })
          ≡ record { transfer = u; state = Active Finished }) (sym e)
          (ap (λ b. (let x : OpenRequest = record {
            transfer = transfer.Send true buffer count dest tag comm;
            state = Active (cond b Finished (OnPost n));
          } in x)) is_met)

      one : (o : Option OpenRequest) → o ≡ Some r
          → option_map (active_with Finished) (option_map (met_open d) o)
          ≡ option_map (met_open d) (option_map (active_with (OnPost n)) o)
      one None e = absurd (cc)
      one (Some x) e = ap (λ y. Some y) (sym (of_send x.transfer (same_transfer x e ∙ is)))
        where
          same_transfer : (x : OpenRequest) → Some x ≡ Some r → x.transfer ≡ r.transfer
          same_transfer x e = ap (λ o. elim o [ None ↦ x.transfer | Some y ↦ y.transfer ]) e
  starts_met site handle part r (transfer.Send false buffer count dest tag comm) memory there is sends = absurd sends
  starts_met site handle part r transfer.SendToNull memory there is sends = absurd sends
  starts_met site handle part r transfer.ReceiveFromNull memory there is sends = absurd sends
  starts_met site handle part r (transfer.Receive buffer capacity source tag comm) memory there is sends = absurd sends
  starts_met site handle part r (transfer.ReceiveClaimed buffer capacity) memory there is sends = absurd sends
  starts_met site handle part r (transfer.SendPartitions side) memory there is sends = absurd sends
  starts_met site handle part r (transfer.ReceivePartitions side) memory there is sends = absurd sends

  started_row : (site : Site) (handle : ℕ) (part : Part) (memory : Memory) (o : Option OpenRequest)
      → request_at part.requests handle ≡ o → SendsNow (asked_start memory o) → Leaves site (starts handle o) part
  started_row site handle part memory None there sends = absurd sends
  started_row site handle part memory (Some r) there sends =
      starts_met site handle part r r.transfer memory there refl sends

  sent_row : (site : Site) (s : Sending) (part : Part) (memory : Memory) (b : Bool)
      → (let t = transfer.Send true s.buffer s.count (member site s.comm s.dest) s.tag s.comm in
      SendsNow (asked_transfer memory false (if b then transfer.SendToNull else t))
      → Leaves site (begins purpose.Open (if b then transfer.SendToNull else t)) part)
  sent_row site s part memory true sends = absurd sends
  sent_row site s part memory false sends = begins_met site s.buffer s.count (member site s.comm s.dest) s.tag s.comm part

  row_leaves : (site : Site) (hart : ℕ) (part : Part) (does : Doing) → LeavesRequest does
      → SendsNow (asked_in site part.memory part.requests part.phases does)
      → Leaves site (row_in site hart part.memory part.requests part.phases does) part
  row_leaves site hart part (Go (call.Issend s)) leaves sends =
      sent_row site s part part.memory (s.dest == no_rank) sends
  row_leaves site hart part (Go (call.Start handle)) leaves sends =
      started_row site handle part part.memory (request_at part.requests handle) refl sends
  row_leaves site hart part _ leaves sends = absurd leaves

  does_same : (memory : Memory) (table : Table) (does : Doing) → LeavesRequest does → DoesSame d memory table does
  does_same memory table (Go (call.Issend s)) leaves = tt
  does_same memory table (Go (call.Start handle)) leaves = tt
  does_same memory table _ leaves = absurd leaves

  -- where such a rank is told that its send is complete, its request is one that is complete
  pub opens_met : (rank : Rank) (hart stamp : ℕ) → LeavesRequest (doing rank.site (part_of rank hart))
      → SendsNow (asked rank hart)
      → told (met_by d rank) hart (answer.Reply (reply.Posted n true)) stamp
      ≡ met_by d (told rank hart (answer.Reply (reply.Posted n false)) stamp)
  unfolding asked
  opens_met rank hart stamp leaves sends =
      let part = part_of rank hart in
      let does = doing rank.site part in
      by_row (met_by d rank) hart (answer.Reply (reply.Posted n true)) stamp
      ∙ ap (λ row. with_part (met_by d rank) hart (told_row rank.site row (answer.Reply (reply.Posted n true))
      (met_part d part)) stamp)
      (row_at_met d rank hart
      ∙ row_met d rank.site hart rank.memory rank.requests rank.phases does
      (does_same rank.memory rank.requests does leaves))
      ∙ ap (λ p. with_part (met_by d rank) hart p stamp) (row_leaves rank.site hart part does leaves sends)
      ∙ with_met d rank hart (told_row rank.site (row_at rank hart) (answer.Reply (reply.Posted n false)) part) stamp
      ∙ ap (met_by d) (sym (by_row rank hart (answer.Reply (reply.Posted n false)) stamp))
