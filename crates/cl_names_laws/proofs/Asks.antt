-- What a hart asks, by other names of posts.
use Rattle.std.proofs.Common.{◌≡◌, ◌∙◌, ℕ, zero, suc, refl, sym, ap, Bool, true, false, List, [], ◌∷◌, length, map, Option, Some, None}
use Rattle.std.specs.Prelude.{◌==◌, if◌then◌else◌, get_or}
use Rattle.std.specs.Option.{option_map}
use Rattle.rv_memory.specs.Memory.{Memory}
use Rattle.rv_memory.specs.Access.{word_at}
use Rattle.rv_hart.specs.State.{State}
use Rattle.rv_hart.specs.declared.state.Mode.{Mode}
use Rattle.rv_hart.specs.declared.state.Mode.TheVariants.{Running, Waiting, Ended, Trapped}
use Rattle.rv_hart.specs.declared.state.Wait.TheVariants.{Post, Again}
use Rattle.mp_types.specs.declared.codes.Code.{Code}
use Rattle.mp_types.specs.declared.requests.Request.{Request}
use Rattle.mp_request.specs.declared.entries.OpenRequest.{OpenRequest}
use Rattle.mp_request.specs.declared.entries.Progress.TheVariants.{Finished, Sent, OnPost, InPhase}
use Rattle.mp_request.specs.declared.entries.State.{State as RequestState}
use Rattle.mp_request.specs.declared.entries.State.TheVariants.{Ordinary, Inactive, Active}
use Rattle.mp_request.specs.declared.entries.Transfer.{Transfer}
use Rattle.mp_request.specs.declared.entries.Transfer.TheVariants as transfer
use Rattle.mp_request.specs.Table.{Table, request_at}
use Rattle.part_phase.specs.declared.phases.Phase.{Phase}
use Rattle.cl_calls.specs.declared.calls.Call.{Call}
use Rattle.cl_calls.specs.declared.calls.Call.TheVariants as call
use Rattle.cl_calls.specs.declared.calls.Several.{Several}
use Rattle.cl_calls.specs.declared.sites.Site.{Site}
use Rattle.cl_calls.specs.Calls.{call_named, no_message, no_rank}
use Rattle.cl_calls.specs.Checks.{first_fault, receiving_side, sending_side}
use Rattle.cl_calls.specs.Handles.{handles_in}
use Rattle.cl_calls.specs.Needs.{array_at, needs_of}
use Rattle.cl_state.specs.declared.asking.Ask.TheVariants as ask
use Rattle.cl_state.specs.declared.asking.Doing.{Doing}
use Rattle.cl_state.specs.declared.asking.Doing.TheVariants.{Step, Refused, Go, Poll, Stopped}
use Rattle.cl_state.specs.declared.partitions.Awaited.{Awaited}
use Rattle.cl_state.specs.declared.partitions.Awaited.TheVariants as awaited_word
use Rattle.cl_state.specs.declared.pending.Manner.{Manner}
use Rattle.cl_state.specs.declared.pending.Manner.TheVariants.{Immediate, Blocking, Posting, Polling}
use Rattle.cl_state.specs.declared.pending.Pending.{Pending}
use Rattle.cl_state.specs.declared.pending.Pending.TheVariants as pending
use Rattle.cl_state.specs.Asked.{Part, asked, asked_by, asked_completing, asked_in, asked_poll, asked_several, asked_start, checked, doing, doing_in, go_or_refuse, is_ecall, no_hart, part_of}
use Rattle.cl_state.specs.Partitions.{asked_arrived, asked_awaited, asked_ready, awaited, awaited_at}
use Rattle.cl_state.specs.Pending.{asked_pending, pending_at, pending_in, pending_of, pending_on}
use Rattle.cl_state.specs.Rank.{Rank}
use Rattle.cl_state.specs.Several.{asked_all, pendings, posts_pending}
use Rattle.cl_state.specs.Transfers.{asked_transfer, receive_of, send_of}
use Rattle.mp_alike_laws.specs.Renaming.{Renaming, number_by, request_by}
use Rattle.cl_names_laws.specs.Named.{ask_by, hart_by, mode_by, open_with, rank_with, state_with, table_with}
use Rattle.cl_names_laws.proofs.Tables.{checks_named, receiving_named, request_named, sending_named}

abbrev pub doing_by : Renaming → Doing → Doing
doing_by names (Poll c post) = Poll c (number_by names post)
doing_by names d = d

abbrev pub part_by : Renaming → (ℕ → ℕ) → Part → Part
part_by names sends part = record part { hart = hart_by names part.hart; requests = table_with names sends part.requests }

abbrev pub pending_by : Renaming → Pending → Pending
pending_by names (pending.Message post buffer capacity) = pending.Message (number_by names post) buffer capacity
pending_by names (pending.Word post) = pending.Word (number_by names post)
pending_by names p = p

module _ (names : Renaming) (sends : ℕ → ℕ) where
  -- ---- what a request needs

  pending_on_by : (t : Transfer) (post : ℕ) → pending_on (number_by names post) t ≡ pending_by names (pending_on post t)
  pending_on_by transfer.SendToNull post = refl
  pending_on_by transfer.ReceiveFromNull post = refl
  pending_on_by (transfer.Send sync buffer count dest tag comm) post = refl
  pending_on_by (transfer.Receive buffer capacity source tag comm) post = refl
  pending_on_by (transfer.ReceiveClaimed buffer capacity) post = refl
  pending_on_by (transfer.SendPartitions side) post = refl
  pending_on_by (transfer.ReceivePartitions side) post = refl

  finished_by : (t : Transfer) → pending_at Finished t ≡ pending_by names (pending_at Finished t)
  finished_by transfer.SendToNull = refl
  finished_by transfer.ReceiveFromNull = refl
  finished_by (transfer.Send sync buffer count dest tag comm) = refl
  finished_by (transfer.Receive buffer capacity source tag comm) = refl
  finished_by (transfer.ReceiveClaimed buffer capacity) = refl
  finished_by (transfer.SendPartitions side) = refl
  finished_by (transfer.ReceivePartitions side) = refl

  pending_in_by : (s : RequestState) (t : Transfer)
      → pending_in (state_with names sends s) t ≡ pending_by names (pending_in s t)
  pending_in_by (Ordinary Finished) t = finished_by t
  pending_in_by (Ordinary (Sent post)) t = finished_by t
  pending_in_by (Ordinary (OnPost post)) t = pending_on_by t post
  pending_in_by (Ordinary InPhase) t = refl
  pending_in_by Inactive t = refl
  pending_in_by (Active Finished) t = finished_by t
  pending_in_by (Active (Sent post)) t = finished_by t
  pending_in_by (Active (OnPost post)) t = pending_on_by t post
  pending_in_by (Active InPhase) t = refl

  pending_of_by : (o : Option OpenRequest) → pending_of (option_map (open_with names sends) o) ≡ pending_by names (pending_of o)
  pending_of_by None = refl
  pending_of_by (Some r) = pending_in_by r.state r.transfer

  pub pending_named : (table : Table) (handle : ℕ)
      → pending_of (request_at (table_with names sends table) handle) ≡ pending_by names (pending_of (request_at table handle))
  pending_named table handle = ap pending_of (request_named names sends table handle) ∙ pending_of_by (request_at table handle)

  pub pendings_named : (table : Table) (handles : List ℕ)
      → pendings (table_with names sends table) handles ≡ map (pending_by names) (pendings table handles)
  pendings_named table [] = refl
  pendings_named table (h ∷ handles) = λ k. pending_named table h k ∷ pendings_named table handles k

  pub posts_by : (ps : List Pending)
      → posts_pending (map (pending_by names) ps) ≡ map (number_by names) (posts_pending ps)
  posts_by [] = refl
  posts_by (pending.Nothing ∷ ps) = posts_by ps
  posts_by (pending.FromNull ∷ ps) = posts_by ps
  posts_by (pending.Message post buffer capacity ∷ ps) = ap (λ xs. number_by names post ∷ xs) (posts_by ps)
  posts_by (pending.Word post ∷ ps) = ap (λ xs. number_by names post ∷ xs) (posts_by ps)

  pub posts_named : (table : Table) (handles : List ℕ)
      → posts_pending (pendings (table_with names sends table) handles)
      ≡ map (number_by names) (posts_pending (pendings table handles))
  posts_named table handles = ap posts_pending (pendings_named table handles) ∙ posts_by (pendings table handles)

  awaited_in_by : (phases : List Phase) (s : RequestState) (t : Transfer)
      → awaited_at phases (state_with names sends s) t ≡ awaited_at phases s t
  awaited_in_by phases (Ordinary p) t = refl
  awaited_in_by phases Inactive t = refl
  awaited_in_by phases (Active p) t = refl

  awaited_by_by : (phases : List Phase) (o : Option OpenRequest)
      → awaited phases (option_map (open_with names sends) o) ≡ awaited phases o
  awaited_by_by phases None = refl
  awaited_by_by phases (Some r) = awaited_in_by phases r.state r.transfer

  pub awaited_named : (phases : List Phase) (table : Table) (handle : ℕ)
      → awaited phases (request_at (table_with names sends table) handle) ≡ awaited phases (request_at table handle)
  awaited_named phases table handle =
      ap (awaited phases) (request_named names sends table handle) ∙ awaited_by_by phases (request_at table handle)

  -- ---- what a call asks

  transfer_asked : (memory : Memory) (now : Bool) (t : Transfer)
      → asked_transfer memory now t ≡ ask_by names (asked_transfer memory now t)
  transfer_asked memory now transfer.SendToNull = refl
  transfer_asked memory now transfer.ReceiveFromNull = refl
  transfer_asked memory now (transfer.Send sync buffer count dest tag comm) = refl
  transfer_asked memory now (transfer.Receive buffer capacity source tag comm) = refl
  transfer_asked memory now (transfer.ReceiveClaimed buffer capacity) = refl
  transfer_asked memory now (transfer.SendPartitions side) = refl
  transfer_asked memory now (transfer.ReceivePartitions side) = refl

  either_asked : (b : Bool) (q : Request) → request_by names q ≡ q
      → (if b then ask.Local else ask.Hub q) ≡ ask_by names (if b then ask.Local else ask.Hub q)
  either_asked true q e = refl
  either_asked false q e = ap (λ x. ask.Hub x) (sym e)

  start_asked : (memory : Memory) (o : Option OpenRequest)
      → asked_start memory (option_map (open_with names sends) o) ≡ ask_by names (asked_start memory o)
  start_asked memory None = refl
  start_asked memory (Some r) = transfer_asked memory false r.transfer

  awaited_asked : (m : Manner) (a : Awaited) → asked_awaited m a ≡ ask_by names (asked_awaited m a)
  awaited_asked m awaited_word.Nothing = refl
  awaited_asked Immediate awaited_word.Unready = refl
  awaited_asked Blocking awaited_word.Unready = refl
  awaited_asked Posting awaited_word.Unready = refl
  awaited_asked Polling awaited_word.Unready = refl
  awaited_asked m (awaited_word.Taking link part) = refl
  awaited_asked m (awaited_word.Cut link) = refl
  awaited_asked m (awaited_word.Box link box) = refl

  pending_asked : (p : Pending) → asked_pending (pending_by names p) ≡ ask_by names (asked_pending p)
  pending_asked pending.Nothing = refl
  pending_asked pending.FromNull = refl
  pending_asked (pending.Message post buffer capacity) = refl
  pending_asked (pending.Word post) = refl

  completing_asked : (m : Manner) (o : Option Awaited) (p : Pending)
      → asked_completing m o (pending_by names p) ≡ ask_by names (asked_completing m o p)
  completing_asked m (Some a) p = awaited_asked m a
  completing_asked m None p = pending_asked p

  completing_named : (m : Manner) (phases : List Phase) (table : Table) (handle : ℕ)
      → asked_completing m (awaited phases (request_at (table_with names sends table) handle))
      (pending_of (request_at (table_with names sends table) handle))
      ≡ ask_by names (asked_completing m (awaited phases (request_at table handle)) (pending_of (request_at table handle)))
  completing_named m phases table handle =
      ap (λ o. asked_completing m o (pending_of (request_at (table_with names sends table) handle)))
      (awaited_named phases table handle)
      ∙ ap (asked_completing m (awaited phases (request_at table handle))) (pending_named table handle)
      ∙ completing_asked m (awaited phases (request_at table handle)) (pending_of (request_at table handle))

  all_asked : (posts : List ℕ) → asked_all (map (number_by names) posts) ≡ ask_by names (asked_all posts)
  all_asked [] = refl
  all_asked (post ∷ posts) = refl

  several_asked : (memory : Memory) (table : Table) (s : Several)
      → asked_several memory (table_with names sends table) s ≡ ask_by names (asked_several memory table s)
  several_asked memory table s =
      ap asked_all (posts_named table (handles_in memory (array_at s.array s.count)))
      ∙ all_asked (posts_pending (pendings table (handles_in memory (array_at s.array s.count))))

  ready_asked : (site : Site) (memory : Memory) (table : Table) (handle part : ℕ)
      → asked_ready site memory part (sending_side (request_at (table_with names sends table) handle))
      ≡ ask_by names (asked_ready site memory part (sending_side (request_at table handle)))
  ready_asked site memory table handle part =
      ap (asked_ready site memory part) (sending_named names sends table handle)
      ∙ go (sending_side (request_at table handle))
    where
      go : (o : _) → asked_ready site memory part o ≡ ask_by names (asked_ready site memory part o)
      go None = refl
      go (Some side) = refl

  arrived_asked : (phases : List Phase) (table : Table) (handle part : ℕ)
      → asked_arrived phases part (receiving_side (request_at (table_with names sends table) handle))
      ≡ ask_by names (asked_arrived phases part (receiving_side (request_at table handle)))
  arrived_asked phases table handle part =
      ap (asked_arrived phases part) (receiving_named names sends table handle)
      ∙ go (receiving_side (request_at table handle))
    where
      go : (o : _) → asked_arrived phases part o ≡ ask_by names (asked_arrived phases part o)
      go None = refl
      go (Some side) = awaited_asked Immediate _

  call_asked : (site : Site) (memory : Memory) (table : Table) (phases : List Phase) (c : Call)
      → asked_by site memory (table_with names sends table) phases c ≡ ask_by names (asked_by site memory table phases c)
  call_asked site memory table phases (call.Send s) = transfer_asked memory true (send_of site false s)
  call_asked site memory table phases (call.Ssend s) = transfer_asked memory true (send_of site true s)
  call_asked site memory table phases (call.Recv r status) = transfer_asked memory true (receive_of site r)
  call_asked site memory table phases (call.Isend s) = transfer_asked memory false (send_of site false s)
  call_asked site memory table phases (call.Issend s) = transfer_asked memory false (send_of site true s)
  call_asked site memory table phases (call.Irecv r) = transfer_asked memory false (receive_of site r)
  call_asked site memory table phases (call.Test c) = completing_named Immediate phases table c.handle
  call_asked site memory table phases (call.Wait c) = completing_named Blocking phases table c.handle
  call_asked site memory table phases (call.Iprobe p) = either_asked (p.source == no_rank) _ refl
  call_asked site memory table phases (call.Probe p) = either_asked (p.source == no_rank) _ refl
  call_asked site memory table phases (call.Improbe p) = either_asked (p.source == no_rank) _ refl
  call_asked site memory table phases (call.Mprobe p) = either_asked (p.source == no_rank) _ refl
  call_asked site memory table phases (call.Imrecv m) = either_asked (m.message == no_message) _ refl
  call_asked site memory table phases (call.Mrecv m status) = either_asked (m.message == no_message) _ refl
  call_asked site memory table phases (call.Start handle) =
      ap (asked_start memory) (request_named names sends table handle) ∙ start_asked memory (request_at table handle)
  call_asked site memory table phases (call.Testall s) = several_asked memory table s
  call_asked site memory table phases (call.Waitall s) = several_asked memory table s
  call_asked site memory table phases (call.Pready handle part) = ready_asked site memory table handle part
  call_asked site memory table phases (call.Parrived handle part) = arrived_asked phases table handle part
  call_asked site memory table phases _ = refl

  poll_asked : (c : Call) (post : ℕ) → asked_poll c (number_by names post) ≡ ask_by names (asked_poll c post)
  poll_asked (call.Ssend s) post = refl
  poll_asked _ post = refl

  in_asked : (site : Site) (memory : Memory) (table : Table) (phases : List Phase) (d : Doing)
      → asked_in site memory (table_with names sends table) phases (doing_by names d)
      ≡ ask_by names (asked_in site memory table phases d)
  in_asked site memory table phases Step = refl
  in_asked site memory table phases (Refused code) = refl
  in_asked site memory table phases (Go c) = call_asked site memory table phases c
  in_asked site memory table phases (Poll c post) = poll_asked c post
  in_asked site memory table phases Stopped = refl

  -- ---- what a hart is about to do

  go_by : (o : Option Code) (c : Call) → go_or_refuse o c ≡ doing_by names (go_or_refuse o c)
  go_by None c = refl
  go_by (Some code) c = refl

  checked_by : (site : Site) (part : Part) → checked site (part_by names sends part) ≡ doing_by names (checked site part)
  checked_by site part =
      ap (λ cs. go_or_refuse (first_fault cs) (call_named part.hart))
      (checks_named names sends site part.memory part.requests part.phases (length part.out) (needs_of (call_named part.hart)))
      ∙ go_by _ (call_named part.hart)

  running_by : (b : Bool) (site : Site) (part : Part)
      → (if b then checked site (part_by names sends part) else Step)
      ≡ doing_by names (if b then checked site part else Step)
  running_by true site part = checked_by site part
  running_by false site part = refl

  mode_doing : (mode : Mode) (site : Site) (part : Part)
      → doing_in (mode_by names mode) site (part_by names sends part) ≡ doing_by names (doing_in mode site part)
  mode_doing Running site part = running_by (is_ecall (word_at part.memory part.hart.pc)) site part
  mode_doing (Waiting (Post post)) site part = refl
  mode_doing (Waiting Again) site part = checked_by site part
  mode_doing (Ended code) site part = refl
  mode_doing (Trapped cause pc) site part = refl

  pub doing_named : (site : Site) (part : Part) → doing site (part_by names sends part) ≡ doing_by names (doing site part)
  unfolding doing
  doing_named site part = mode_doing part.hart.mode site part

  hart_at : (harts : List State) (hart : ℕ)
      → get_or (map (hart_by names) harts) hart no_hart ≡ hart_by names (get_or harts hart no_hart)
  hart_at [] zero = refl
  hart_at [] (suc hart) = refl
  hart_at (h ∷ harts) zero = refl
  hart_at (h ∷ harts) (suc hart) = hart_at harts hart

  pub part_named : (rank : Rank) (hart : ℕ) → part_of (rank_with names sends rank) hart ≡ part_by names sends (part_of rank hart)
  part_named rank hart = λ k. record {
    hart = hart_at rank.harts hart k;
    memory = rank.memory;
    requests = table_with names sends rank.requests;
    phases = rank.phases;
    out = rank.out;
  }

  pub asks : (rank : Rank) (hart : ℕ) → asked (rank_with names sends rank) hart ≡ ask_by names (asked rank hart)
  unfolding asked
  asks rank hart =
      ap (asked_in rank.site rank.memory (table_with names sends rank.requests) rank.phases)
      (ap (doing rank.site) (part_named rank hart) ∙ doing_named rank.site (part_of rank hart))
      ∙ in_asked rank.site rank.memory rank.requests rank.phases (doing rank.site (part_of rank hart))
