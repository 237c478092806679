-- What a call needs that completes requests: the same where synchronous sends are complete, or a send that is.
use Rattle.std.proofs.Common.{◌≡◌, ◌∙◌, ℕ, ◌⊎◌, inl, inr, refl, sym, ap, Bool, true, false, List, [], ◌∷◌, Option, Some, None}
use Rattle.std.specs.Prelude.{◌||◌, ◌&&◌, cond}
use Rattle.std.specs.List.{list_any}
use Rattle.std.specs.Option.{option_map}
use Rattle.rv_memory.specs.Memory.{Memory}
use Rattle.mp_types.specs.declared.replies.Reply.TheVariants as reply
use Rattle.mp_types.specs.declared.requests.Request.TheVariants as request
use Rattle.mp_request.specs.declared.entries.OpenRequest.{OpenRequest}
use Rattle.mp_request.specs.declared.entries.Progress.{Progress}
use Rattle.mp_request.specs.declared.entries.Progress.TheVariants.{Finished, Sent, OnPost, InPhase}
use Rattle.mp_request.specs.declared.entries.State.{State}
use Rattle.mp_request.specs.declared.entries.State.TheVariants.{Ordinary, Inactive, Active}
use Rattle.mp_request.specs.declared.entries.Transfer.{Transfer}
use Rattle.mp_request.specs.declared.entries.Transfer.TheVariants as transfer
use Rattle.mp_request.specs.Table.{Table, request_at}
use Rattle.part_phase.specs.declared.phases.Phase.{Phase}
use Rattle.cl_calls.specs.declared.calls.Call.TheVariants as call
use Rattle.cl_calls.specs.declared.calls.Completing.{Completing}
use Rattle.cl_calls.specs.declared.calls.Several.{Several}
use Rattle.cl_calls.specs.Calls.{any}
use Rattle.cl_calls.specs.Handles.{handles_in}
use Rattle.cl_calls.specs.Needs.{array_at}
use Rattle.cl_state.specs.declared.asking.Answer.TheVariants as answer
use Rattle.cl_state.specs.declared.asking.Ask.{Ask}
use Rattle.cl_state.specs.declared.asking.Doing.{Doing}
use Rattle.cl_state.specs.declared.asking.Doing.TheVariants.{Go}
use Rattle.cl_state.specs.declared.pending.Manner.TheVariants.{Blocking}
use Rattle.cl_state.specs.declared.pending.Pending.TheVariants as pending
use Rattle.cl_state.specs.Asked.{Part, asked, asked_completing, asked_in, doing, part_of}
use Rattle.cl_state.specs.Partitions.{awaited, awaited_at}
use Rattle.cl_state.specs.Pending.{asked_pending, pending_at, pending_in, pending_of}
use Rattle.cl_state.specs.Rank.{Rank}
use Rattle.cl_state.specs.Several.{asked_all, pendings, posts_pending}
use Rattle.cl_state.specs.Table.{completes, completing, row_completing, row_in}
use Rattle.cl_state.specs.Told.{received, told, told_row, with_part}
use Rattle.cl_state_laws.specs.Vain.{waits_on}
use Rattle.cl_names_laws.proofs.Told.{row_at}
use Rattle.cl_post_laws.proofs.Renamed.{by_row}
use Rattle.cl_reduction_laws.specs.Complete.{is_complete_send, is_finished, is_synchronous, polls_complete_in}
use Rattle.cl_way_laws.specs.Met.{met_by, met_open, met_state, met_table}
use Rattle.cl_way_laws.proofs.MetAsks.{AllNeedSame, DoesSame, NeedsSame, awaited_met, doing_met, met_part}
use Rattle.cl_way_laws.proofs.MetGot.{IsLess, same_none}
use Rattle.cl_way_laws.proofs.MetRows.{row_at_met, with_met}
use Rattle.cl_way_laws.proofs.MetTables.{request_met}
use Rattle.cl_way_laws.proofs.MetTold.{received_by}

module _ (d : ℕ → Bool) where
  -- ---- one request

  -- it waits for the post of this number, where it is complete once its message has arrived
  abbrev IsMetAt : State → Transfer → ℕ → Type 0
  IsMetAt s t n =
      (d n ≡ true) × (pending_in s t ≡ pending.Word n) × (pending_in (met_state d t s) t ≡ pending.Nothing)
      × ((is_synchronous t && is_finished (met_state d t s)) ≡ true) × ((phases : List Phase) → awaited_at phases s t ≡ None)

  state_needs : (s : State) (t : Transfer)
      → (pending_in (met_state d t s) t ≡ pending_in s t) ⊎ ((n : ℕ) × IsMetAt s t n)
  state_needs Inactive t = inl refl
  state_needs (Ordinary (OnPost n)) (transfer.Send true buffer count dest tag comm) = go (d n) refl
    where
      t : Transfer
      t = transfer.Send true buffer count dest tag comm

      go : (b : Bool) → d n ≡ b
          → (pending_in (met_state d t (Ordinary (OnPost n))) t ≡ pending_in (Ordinary (OnPost n)) t)
          ⊎ ((k : ℕ) × IsMetAt (Ordinary (OnPost n)) t k)
      go true e =
          inr (
            n,
            (
              e,
              refl,
              ap (λ b. pending_at (cond b Finished (OnPost n)) t) e,
              ap (λ b. is_finished (Ordinary (cond b Finished (OnPost n)))) e,
              λ phases. refl,
            ),
          )
      go false e = inl (ap (λ b. pending_at (cond b Finished (OnPost n)) t) e)
  state_needs (Active (OnPost n)) (transfer.Send true buffer count dest tag comm) = go (d n) refl
    where
      t : Transfer
      t = transfer.Send true buffer count dest tag comm

      go : (b : Bool) → d n ≡ b
          → (pending_in (met_state d t (Active (OnPost n))) t ≡ pending_in (Active (OnPost n)) t)
          ⊎ ((k : ℕ) × IsMetAt (Active (OnPost n)) t k)
      go true e =
          inr (
            n,
            (
              e,
              refl,
              ap (λ b. pending_at (cond b Finished (OnPost n)) t) e,
              ap (λ b. is_finished (Active (cond b Finished (OnPost n)))) e,
              λ phases. refl,
            ),
          )
      go false e = inl (ap (λ b. pending_at (cond b Finished (OnPost n)) t) e)
  state_needs (Ordinary p) (transfer.Send false buffer count dest tag comm) = inl (ordinary p)
    where
      ordinary : (p : Progress) → (let t = transfer.Send false buffer count dest tag comm in
          pending_in (met_state d t (Ordinary p)) t ≡ pending_in (Ordinary p) t)
      ordinary (OnPost n) = refl
      ordinary Finished = refl
      ordinary (Sent n) = refl
      ordinary InPhase = refl
  state_needs (Active p) (transfer.Send false buffer count dest tag comm) = inl (active p)
    where
      active : (p : Progress) → (let t = transfer.Send false buffer count dest tag comm in
          pending_in (met_state d t (Active p)) t ≡ pending_in (Active p) t)
      active (OnPost n) = refl
      active Finished = refl
      active (Sent n) = refl
      active InPhase = refl
  state_needs (Ordinary Finished) (transfer.Send true buffer count dest tag comm) = inl refl
  state_needs (Ordinary (Sent n)) (transfer.Send true buffer count dest tag comm) = inl refl
  state_needs (Ordinary InPhase) (transfer.Send true buffer count dest tag comm) = inl refl
  state_needs (Active Finished) (transfer.Send true buffer count dest tag comm) = inl refl
  state_needs (Active (Sent n)) (transfer.Send true buffer count dest tag comm) = inl refl
  state_needs (Active InPhase) (transfer.Send true buffer count dest tag comm) = inl refl
  state_needs (Ordinary p) transfer.SendToNull = inl refl
  state_needs (Ordinary p) transfer.ReceiveFromNull = inl refl
  state_needs (Ordinary p) (transfer.Receive buffer capacity source tag comm) = inl refl
  state_needs (Ordinary p) (transfer.ReceiveClaimed buffer capacity) = inl refl
  state_needs (Ordinary p) (transfer.SendPartitions side) = inl refl
  state_needs (Ordinary p) (transfer.ReceivePartitions side) = inl refl
  state_needs (Active p) transfer.SendToNull = inl refl
  state_needs (Active p) transfer.ReceiveFromNull = inl refl
  state_needs (Active p) (transfer.Receive buffer capacity source tag comm) = inl refl
  state_needs (Active p) (transfer.ReceiveClaimed buffer capacity) = inl refl
  state_needs (Active p) (transfer.SendPartitions side) = inl refl
  state_needs (Active p) (transfer.ReceivePartitions side) = inl refl

  pub record IsMetIn (table : Table) (handle n : ℕ) : Type 0 where
    pub met : d n ≡ true
    pub waits : pending_of (request_at table handle) ≡ pending.Word n
    pub then : pending_of (request_at (met_table d table) handle) ≡ pending.Nothing
    pub complete : is_complete_send (request_at (met_table d table) handle) ≡ true
    pub apart : (phases : List Phase) → awaited phases (request_at table handle) ≡ None

  pub needs_or_met : (table : Table) (handle : ℕ) → NeedsSame d table handle ⊎ ((n : ℕ) × IsMetIn table handle n)
  needs_or_met table handle = go (request_at table handle) refl
    where
      went : (o : Option OpenRequest) → request_at table handle ≡ o
          → request_at (met_table d table) handle ≡ option_map (met_open d) o
      went o e = request_met d table handle ∙ ap (option_map (met_open d)) e

      go : (o : Option OpenRequest) → request_at table handle ≡ o
          → NeedsSame d table handle ⊎ ((n : ℕ) × IsMetIn table handle n)
      go None e = inl (ap pending_of (went None e) ∙ sym (ap pending_of e))
      go (Some r) e = elim (state_needs r.state r.transfer) [
        | inl same ↦ inl (ap pending_of (went (Some r) e) ∙ same ∙ sym (ap pending_of e))
        | inr m ↦ inr (
          m.0,
          record {
            met = m.1.0;
            waits = ap pending_of e ∙ m.1.1;
            then = ap pending_of (went (Some r) e) ∙ m.1.2;
            complete = ap is_complete_send (went (Some r) e) ∙ m.1.3;
            apart = λ phases. ap (awaited phases) e ∙ m.1.4 phases;
          },
        )
      ]

  -- ---- several requests

  or_true : (b : Bool) → (b || true) ≡ true
  or_true true = refl
  or_true false = refl

  abbrev pub is_one_complete : Table → List ℕ → Bool
  is_one_complete table handles = list_any (λ h. is_complete_send (request_at table h)) handles

  pub all_need_or_met : (table : Table) (handles : List ℕ)
      → AllNeedSame d table handles ⊎ (is_one_complete (met_table d table) handles ≡ true)
  all_need_or_met table [] = inl refl
  all_need_or_met table (h ∷ handles) = elim (needs_or_met table h) [
    | inl one ↦ elim (all_need_or_met table handles) [
      | inl rest ↦ inl (λ k. one k ∷ rest k)
      | inr is ↦ inr (ap (λ b. is_complete_send (request_at (met_table d table) h) || b) is
          ∙ or_true (is_complete_send (request_at (met_table d table) h)))
    ]
    | inr m ↦ inr (ap (λ b. b || is_one_complete (met_table d table) handles) m.1.complete)
  ]

  -- ---- a turn

  -- a WAIT for the post of this number, where it is complete once its message has arrived
  pub record WaitsForMet (table : Table) (does : Doing) : Type 0 where
    pub c : Completing
    pub is : does ≡ Go (call.Wait c)
    pub n : ℕ
    pub names : IsMetIn table c.handle n

  -- a WAITALL that asks for these posts
  pub record Gathers (memory : Memory) (table : Table) (does : Doing) : Type 0 where
    pub s : Several
    pub is : does ≡ Go (call.Waitall s)
    pub post : ℕ
    pub posts : List ℕ
    pub names : posts_pending (pendings table (handles_in memory (array_at s.array s.count))) ≡ post ∷ posts

  -- its requests need the same, but of sends that are complete
  pub less : (table : Table) (handles : List ℕ) → IsLess d (pendings table handles) (pendings (met_table d table) handles)
  less table [] = tt
  less table (h ∷ handles) = (
    elim (needs_or_met table h) [
      | inl same ↦ inl same
      | inr m ↦ inr (m.0, m.1.met, m.1.waits, m.1.then)
    ],
    less table handles,
  )

  -- it asks the same, or waits for what is complete, or gathers
  pub does_or_waits : (memory : Memory) (table : Table) (does : Doing)
      → polls_complete_in memory (met_table d table) does ≡ false
      → DoesSame d memory table does ⊎ (WaitsForMet table does ⊎ Gathers memory table does)
  does_or_waits memory table (Go (call.Test c)) none = elim (needs_or_met table c.handle) [
    | inl same ↦ inl same
    | inr m ↦ (let is = m.1.complete in absurd (cc))
  ]
  does_or_waits memory table (Go (call.Wait c)) none = elim (needs_or_met table c.handle) [
    | inl same ↦ inl same
    | inr m ↦ inr (inl (record { c = c; is = refl; n = m.0; names = m.1 }))
  ]
  does_or_waits memory table (Go (call.Testall s)) none =
      elim (all_need_or_met table (handles_in memory (array_at s.array s.count))) [
        | inl same ↦ inl same
        | inr is ↦ absurd (cc)
      ]
  does_or_waits memory table (Go (call.Waitall s)) none =
      go (posts_pending (pendings table (handles_in memory (array_at s.array s.count)))) refl
    where
      go : (ns : List ℕ) → posts_pending (pendings table (handles_in memory (array_at s.array s.count))) ≡ ns
          → DoesSame d memory table (Go (call.Waitall s))
          ⊎ (WaitsForMet table (Go (call.Waitall s)) ⊎ Gathers memory table (Go (call.Waitall s)))
      go [] e =
          inl (same_none d (pendings table (handles_in memory (array_at s.array s.count)))
          (pendings (met_table d table) (handles_in memory (array_at s.array s.count)))
          (less table (handles_in memory (array_at s.array s.count))) e)
      go (n ∷ ns) e = inr (inr (record { s = s; is = refl; post = n; posts = ns; names = e }))
  does_or_waits memory table _ none = inl tt

  -- ---- a WAIT

  module _ (rank : Rank) (hart : ℕ)
      (waits : WaitsForMet rank.requests (doing rank.site (part_of rank hart))) where
    abbrev part : Part
    part = part_of rank hart

    abbrev o : Option OpenRequest
    o = request_at rank.requests (waits.c).handle

    abbrev u : Option OpenRequest
    u = request_at (met_table d rank.requests) (waits.c).handle

    pub wait_on : waits_on (doing rank.site part) ≡ true
    wait_on = ap waits_on waits.is

    -- it asks whether its send is complete
    pub wait_asks : asked rank hart ≡ Ask.Hub (request.Finished waits.n)
    unfolding asked
    wait_asks =
        ap (asked_in rank.site rank.memory rank.requests rank.phases) waits.is
        ∙ ap (λ a. asked_completing Blocking a (pending_of o)) ((waits.names).apart rank.phases)
        ∙ ap asked_pending (waits.names).waits

    apart_then : awaited rank.phases u ≡ None
    apart_then = awaited_met d rank.phases rank.requests (waits.c).handle ∙ (waits.names).apart rank.phases

    -- and nobody once it is
    pub wait_asks_none : asked (met_by d rank) hart ≡ Ask.Local
    unfolding asked
    wait_asks_none =
        ap (asked_in rank.site rank.memory (met_table d rank.requests) rank.phases)
        (doing_met d rank.site part ∙ waits.is)
        ∙ ap (λ a. asked_completing Blocking a (pending_of u)) apart_then
        ∙ ap asked_pending (waits.names).then

    row_is : row_at rank hart ≡ completes Blocking waits.c (pending.Word waits.n)
    row_is =
        ap (row_in rank.site hart rank.memory rank.requests rank.phases) waits.is
        ∙ ap (λ a. row_completing Blocking waits.c a o) ((waits.names).apart rank.phases)
        ∙ ap (completes Blocking waits.c) (waits.names).waits

    row_then : row_at (met_by d rank) hart ≡ completes Blocking waits.c pending.Nothing
    row_then =
        row_at_met d rank hart
        ∙ ap (row_in rank.site hart rank.memory (met_table d rank.requests) rank.phases) waits.is
        ∙ ap (λ a. row_completing Blocking waits.c a u) apart_then
        ∙ ap (completes Blocking waits.c) (waits.names).then

    -- told that it is complete, it goes on as where it was
    pub wait_told : (stamp : ℕ)
        → told (met_by d rank) hart answer.Alone stamp
        ≡ met_by d (told rank hart (answer.Reply reply.Done) stamp)
    wait_told stamp =
        let target = completing Blocking waits.c 0 0 in
        by_row (met_by d rank) hart answer.Alone stamp
        ∙ ap (λ row. with_part (met_by d rank) hart (told_row rank.site row answer.Alone (met_part d part)) stamp) row_then
        ∙ ap (λ p. with_part (met_by d rank) hart p stamp) (received_by d target any any [] part)
        ∙ with_met d rank hart (received target any any [] part) stamp
        ∙ ap (met_by d) (sym (by_row rank hart (answer.Reply reply.Done) stamp
        ∙ ap (λ row. with_part rank hart (told_row rank.site row (answer.Reply reply.Done) part) stamp) row_is))

  -- ---- a WAITALL

  pub gathers_asks : (rank : Rank) (hart : ℕ)
      → (g : Gathers rank.memory rank.requests (doing rank.site (part_of rank hart)))
      → asked rank hart ≡ Ask.Hub (request.All (g.post ∷ g.posts))
  unfolding asked
  gathers_asks rank hart g =
      ap (asked_in rank.site rank.memory rank.requests rank.phases) g.is ∙ ap asked_all g.names
