-- A Take writes the bytes that it took to their place.
use Rattle.std.specs.Prelude.{ℕ, ◌+◌, ◌*◌, ◌≡◌, ◌⊎◌, ◌==◌, Bool, true, false, List, take, Option, None, Some}
use Rattle.std.specs.Prelude.{if◌then◌else◌}
use Rattle.std.proofs.Common.{refl, sym, ap, ◌∙◌, subst}
use mathlib.Core.Logic.{inl, inr}
use Rattle.rv_memory.specs.Memory.{Memory}
use Rattle.mp_types.specs.declared.requests.Request.TheVariants as request
use Rattle.mp_request.specs.declared.entries.OpenRequest.{OpenRequest}
use Rattle.mp_request.specs.declared.entries.Partitions.{Partitions}
use Rattle.mp_request.specs.declared.entries.State.{State}
use Rattle.mp_request.specs.declared.entries.State.TheVariants.{Ordinary, Inactive, Active}
use Rattle.mp_request.specs.declared.entries.Transfer.{Transfer}
use Rattle.mp_request.specs.declared.entries.Transfer.TheVariants as transfer
use Rattle.mp_request.specs.Table.{request_at}
use Rattle.part_phase.specs.declared.receiving.RecvPhase.{RecvPhase}
use Rattle.part_phase.specs.declared.sending.SendPhase.{SendPhase}
use Rattle.part_phase.specs.Phases.{receiving_at, sending_at}
use Rattle.part_phase.specs.Receiving.{next_box, next_box_of}
use Rattle.part_phase.specs.Sending.{next_to_free}
use Rattle.cl_calls.specs.declared.calls.Call.{Call}
use Rattle.cl_calls.specs.declared.calls.Call.TheVariants as call
use Rattle.cl_calls.specs.declared.calls.Completing.{Completing}
use Rattle.cl_calls.specs.declared.sites.Site.{Site}
use Rattle.cl_calls.specs.Calls.{no_rank, no_message}
use Rattle.cl_calls.specs.Checks.{receives_in, receiving_side, sending_side}
use Rattle.cl_calls.specs.Handles.{handles_in}
use Rattle.cl_calls.specs.Needs.{array_at}
use Rattle.cl_calls.specs.Site.{members, position_of}
use Rattle.cl_state.specs.declared.asking.Answer.TheVariants as answer
use Rattle.cl_state.specs.declared.asking.Ask.{Ask}
use Rattle.cl_state.specs.declared.asking.Ask.TheVariants as ask
use Rattle.cl_state.specs.declared.asking.Doing.{Doing}
use Rattle.cl_state.specs.declared.asking.Doing.TheVariants.{Go, Poll}
use Rattle.cl_state.specs.declared.partitions.Awaited.TheVariants.{Box, Unready}
use Rattle.cl_state.specs.declared.pending.Manner.{Manner}
use Rattle.cl_state.specs.declared.pending.Manner.TheVariants.{Immediate, Blocking, Polling, Posting}
use Rattle.cl_state.specs.declared.pending.Pending.{Pending}
use Rattle.cl_state.specs.declared.pending.Target.{Target}
use Rattle.cl_state.specs.declared.row.Row.{Row}
use Rattle.cl_state.specs.Asked.{Part, asked, asked_by, asked_completing, asked_in, doing}
use Rattle.cl_state.specs.Asked.{part_of}
use Rattle.cl_state.specs.Partitions.{asked_arrived, asked_awaited, awaited, awaited_at, awaited_by}
use Rattle.cl_state.specs.Partitions.{awaited_in, taking_of}
use Rattle.cl_state.specs.Pending.{pending_of}
use Rattle.cl_state.specs.Rank.{Rank}
use Rattle.cl_state.specs.Several.{pendings, posts_pending}
use Rattle.cl_state.specs.Table.{completing, row_arrived, row_awaited, row_completing, row_in, row_of, row_of_part}
use Rattle.cl_state.specs.Told.{arrived, arrived_from, not_yet, seen_one, taken_one, told, told_row, with_taken_box}
use Rattle.cl_state.specs.Told.{with_status}
use Rattle.cl_state.specs.Transfers.{receive_of, send_of, source_of, tag_of}
use Rattle.cl_state.specs.Written.{written}
use Rattle.cl_state.proofs.Awaits.{by_awaited, by_taking, row_by, row_is}
use Rattle.cl_state_laws.specs.Laws.{IsLook}
use Rattle.cl_state_laws.proofs.Misses.{no_look, no_look_all, no_look_if, no_look_pending, no_look_poll, no_look_ready}
use Rattle.cl_state_laws.proofs.Misses.{no_look_start}
use Rattle.cl_deeds.specs.Deeds.{Suits, answer_of}
use Rattle.cl_arrival_laws.specs.Laws.{WriteLaw}

-- a question whether a thing is there, and not whether one was taken
abbrev AsksThing : Ask → Type 0
AsksThing (ask.Look link box) = Unit {0}
AsksThing _ = ⊥

module _ (site : Site) (old : Part) (link box : ℕ) (bytes : List ℕ) where
  abbrev placed_in : Partitions → Memory
  placed_in side =
      written old.memory (side.buffer + box * (receiving_at old.phases side.link).bytes)
      (take (receiving_at old.phases side.link).bytes bytes)

  abbrev Places : Partitions → Memory → Type 0
  Places side memory =
      (memory ≡ placed_in side)
      ⊎ ((address : ℕ) × (source : ℕ) × (tag : ℕ) × (count : ℕ)
      × (memory ≡ with_status (placed_in side) address source tag count))

  -- a row of a turn whose request transfers this
  abbrev Says : Transfer → Row → Ask → Type 0
  Says t row asks =
      asks ≡ ask.Look link box
      → (side : Partitions) × (receives_in t ≡ Some side) × (side.link ≡ link)
      × Places side (told_row site row (answer.Taken bytes) old).memory

  looked : {asks : Ask} → asks ≡ ask.Look link box → (IsLook asks → ⊥) → ⊥
  looked e none = none (subst IsLook (sym e) tt)

  still : (m : Manner) (part : Part) → (not_yet m part).memory ≡ part.memory
  still Immediate part = refl
  still Blocking part = refl
  still Polling part = refl
  still Posting part = refl

  arrives : (side : Partitions) (target : Target) (o : Option ℕ) (after : Part) → after.memory ≡ placed_in side
      → Places side (arrived_from o side target after).memory
  arrives side target None after e = inl e
  arrives side target (Some place) after e =
      inr (
        target.status,
        place,
        side.tag,
        side.parts * side.size,
        ap (λ m. with_status m target.status place side.tag (side.parts * side.size)) e,
      )

  takes_one : (m : Manner) (side : Partitions) (target : Target)
      → Places side (taken_one site m side box target bytes old).memory
  unfolding taken_one arrived
  takes_one m side target =
      go (receiving_at (with_taken_box side box bytes old).phases side.link).active
    where
      go : (b : Bool)
          → Places side
          (if b
          then not_yet m (with_taken_box side box bytes old)
          else arrived_from (position_of side.peer (members site side.comm)) side target
          (with_taken_box side box bytes old)).memory
      go true = inl (still m (with_taken_box side box bytes old))
      go false = arrives side target (position_of side.peer (members site side.comm)) (with_taken_box side box bytes old) refl

  says_takes : (m : Manner) (side : Partitions) (target : Target) (b : ℕ)
      → Says (transfer.ReceivePartitions side) (row_awaited m (transfer.ReceivePartitions side) target
      (Box side.link b))
      (ask.Look side.link b)
  says_takes m side target b e =
      let same_link : side.link ≡ link = cc in
      let same_box : b ≡ box = cc in (
        side,
        refl,
        same_link,
        subst (λ x. Places side (taken_one site m side x target bytes old).memory) (sym same_box)
            (takes_one m side target),
      )

  says_sees : (side : Partitions) (part b : ℕ)
      → Says (transfer.ReceivePartitions side) (row_of_part side part (Box side.link b)) (ask.Look side.link b)
  unfolding seen_one
  says_sees side part b e =
      let same_link : side.link ≡ link = cc in
      let same_box : b ≡ box = cc in (
        side,
        refl,
        same_link,
        subst (λ x. Places side (seen_one side x part bytes old).memory) (sym same_box) (inl refl),
      )

  says_receiver : (m : Manner) (side : Partitions) (target : Target) (p : RecvPhase) (next : Option ℕ)
      → Says (transfer.ReceivePartitions side)
      (row_awaited m (transfer.ReceivePartitions side) target (awaited_in side.link p next))
      (asked_awaited m (awaited_in side.link p next))
  says_receiver m side target p next =
      by_awaited
      (λ w. Says (transfer.ReceivePartitions side) (row_awaited m (transfer.ReceivePartitions side) target w)
      (asked_awaited m w)) side.link p next
      (λ e. absurd (subst IsLook (sym e) tt)) (λ going unknown e. absurd (subst IsLook (sym e) tt))
      (λ b going is. says_takes m side target b)

  says_unready : (m : Manner) → AsksThing (asked_awaited m Unready) → ⊥
  says_unready Immediate look = look
  says_unready Blocking look = look
  says_unready Polling look = look
  says_unready Posting look = look

  no_look_sender : (m : Manner) (l : ℕ) (p : SendPhase)
      → AsksThing (asked_awaited m (taking_of l p (next_to_free p))) → ⊥
  no_look_sender m l p =
      by_taking (λ w. AsksThing (asked_awaited m w) → ⊥) l p (λ look. look) (says_unready m)
      (λ free going next ready look. look)

  says_by : (m : Manner) (c : Completing) (t : Transfer) (p : Pending)
      → Says t (row_by m c (awaited_by old.phases t) t p) (asked_completing m (awaited_by old.phases t) p)
  says_by m c (transfer.ReceivePartitions side) p =
      says_receiver m side (completing m c 0 0) (receiving_at old.phases side.link)
      (next_box (receiving_at old.phases side.link))
  says_by m c (transfer.SendPartitions side) p =
      λ e. absurd (no_look_sender m side.link (sending_at old.phases side.link) (subst AsksThing (sym e) tt))
  says_by m c transfer.SendToNull p = λ e. absurd (looked e (no_look_pending p))
  says_by m c transfer.ReceiveFromNull p = λ e. absurd (looked e (no_look_pending p))
  says_by m c (transfer.Send sync buffer count dest tag comm) p =
      λ e. absurd (looked e (no_look_pending p))
  says_by m c (transfer.Receive buffer capacity source tag comm) p =
      λ e. absurd (looked e (no_look_pending p))
  says_by m c (transfer.ReceiveClaimed buffer capacity) p =
      λ e. absurd (looked e (no_look_pending p))

  says_at : (m : Manner) (c : Completing) (s : State) (t : Transfer) (p : Pending)
      → Says t (row_by m c (awaited_at old.phases s t) t p) (asked_completing m (awaited_at old.phases s t) p)
  says_at m c Inactive t p = λ e. absurd (looked e (no_look_pending p))
  says_at m c (Ordinary progress) t p = says_by m c t p
  says_at m c (Active progress) t p = says_by m c t p

  -- ---- a turn

  abbrev Writes : Row → Ask → Type 0
  Writes row asks =
      asks ≡ ask.Look link box
      → (handle : ℕ) × (side : Partitions) × (receiving_side (request_at old.requests handle) ≡ Some side)
      × (side.link ≡ link) × Places side (told_row site row (answer.Taken bytes) old).memory

  of_request : (handle : ℕ) (r : OpenRequest) (row : Row) (asks : Ask) → request_at old.requests handle ≡ Some r
      → Says r.transfer row asks → Writes row asks
  of_request handle r row asks is says e =
      let s = says e in (handle, s.0, ap receiving_side is ∙ s.1, s.2, s.3)

  writes_completing : (m : Manner) (c : Completing) (o : Option OpenRequest) → request_at old.requests c.handle ≡ o
      → Writes (row_completing m c (awaited old.phases o) o) (asked_completing m (awaited old.phases o)
      (pending_of o))
  writes_completing m c None is = λ e. absurd (looked e (λ look. look))
  writes_completing m c (Some r) is =
      of_request c.handle r (row_completing m c (awaited old.phases (Some r)) (Some r))
      (asked_completing m (awaited old.phases (Some r)) (pending_of (Some r))) is
      (subst (λ row. Says r.transfer row (asked_completing m (awaited old.phases (Some r)) (pending_of (Some r))))
      (row_is m c (awaited old.phases (Some r)) r) (says_at m c r.state r.transfer (pending_of (Some r))))

  writes_arrived : (handle part : ℕ) (o : Option Partitions) → receiving_side (request_at old.requests handle) ≡ o
      → Writes (row_arrived old.phases part o) (asked_arrived old.phases part o)
  writes_arrived handle part None is = λ e. absurd (looked e (λ look. look))
  writes_arrived handle part (Some side) is = λ e.
      let s =
      by_awaited (λ w. Says (transfer.ReceivePartitions side) (row_of_part side part w) (asked_awaited Immediate w))
      side.link (receiving_at old.phases side.link) (next_box_of (receiving_at old.phases side.link) part)
      (λ e. absurd (subst IsLook (sym e) tt)) (λ going unknown e. absurd (subst IsLook (sym e) tt))
      (λ b going next. says_sees side part b) e in
      let same : side ≡ s.0 = cc in
      (handle, s.0, is ∙ ap Some same, s.2, s.3)

  writes_call : (hart : ℕ) (c : Call)
      → Writes (row_of site hart old.memory old.requests old.phases c)
      (asked_by site old.memory old.requests old.phases c)
  writes_call hart (call.Test c) = writes_completing Immediate c (request_at old.requests c.handle) refl
  writes_call hart (call.Wait c) = writes_completing Blocking c (request_at old.requests c.handle) refl
  writes_call hart (call.Parrived handle part) =
      writes_arrived handle part (receiving_side (request_at old.requests handle)) refl
  writes_call hart (call.Pready handle ready) =
      λ e. absurd (looked e (no_look_ready site old.memory ready (sending_side (request_at old.requests handle))))
  writes_call hart (call.Send s) = λ e. absurd (looked e (no_look old.memory true (send_of site false s)))
  writes_call hart (call.Ssend s) = λ e. absurd (looked e (no_look old.memory true (send_of site true s)))
  writes_call hart (call.Recv r status) = λ e. absurd (looked e (no_look old.memory true (receive_of site r)))
  writes_call hart (call.Isend s) = λ e. absurd (looked e (no_look old.memory false (send_of site false s)))
  writes_call hart (call.Issend s) = λ e. absurd (looked e (no_look old.memory false (send_of site true s)))
  writes_call hart (call.Irecv r) = λ e. absurd (looked e (no_look old.memory false (receive_of site r)))
  writes_call hart (call.Iprobe p) =
      λ e. absurd (looked e (no_look_if (p.source == no_rank) (request.Probe p.comm
      (source_of site p.comm p.source) (tag_of p.tag))))
  writes_call hart (call.Probe p) =
      λ e. absurd (looked e (no_look_if (p.source == no_rank) (request.Probe p.comm
      (source_of site p.comm p.source) (tag_of p.tag))))
  writes_call hart (call.Improbe p) =
      λ e. absurd (looked e (no_look_if (p.source == no_rank) (request.Claim p.comm
      (source_of site p.comm p.source) (tag_of p.tag))))
  writes_call hart (call.Mprobe p) =
      λ e. absurd (looked e (no_look_if (p.source == no_rank) (request.Claim p.comm
      (source_of site p.comm p.source) (tag_of p.tag))))
  writes_call hart (call.Imrecv m) =
      λ e. absurd (looked e (no_look_if (m.message == no_message) (request.Claimed false m.message)))
  writes_call hart (call.Mrecv m status) =
      λ e. absurd (looked e (no_look_if (m.message == no_message) (request.Claimed true m.message)))
  writes_call hart (call.Start handle) = λ e. absurd (looked e (no_look_start old.memory
      (request_at old.requests handle)))
  writes_call hart (call.Testall s) =
      λ e. absurd (looked e (no_look_all (posts_pending (pendings old.requests (handles_in old.memory
      (array_at s.array s.count))))))
  writes_call hart (call.Waitall s) =
      λ e. absurd (looked e (no_look_all (posts_pending (pendings old.requests (handles_in old.memory
      (array_at s.array s.count))))))
  writes_call hart _ = λ e. absurd (looked e (λ look. look))

  writes_turn : (hart : ℕ) (d : Doing)
      → Writes (row_in site hart old.memory old.requests old.phases d)
      (asked_in site old.memory old.requests old.phases d)
  writes_turn hart (Go c) = writes_call hart c
  writes_turn hart (Poll c post) = λ e. absurd (looked e (no_look_poll c post))
  writes_turn hart _ = λ e. absurd (looked e (λ look. look))

pub writes : WriteLaw
unfolding told asked
writes old new d link box gate bytes move is =
    let asks : asked old d.hart ≡ ask.Look link box = subst (Suits (asked old d.hart)) is move.2 in
    let w =
    writes_turn old.site (part_of old d.hart) link box bytes d.hart (doing old.site (part_of old d.hart)) asks in
    let told_is = move.4 ∙ ap (λ a. told old d.hart (answer_of a) d.stamp) is in
    record {
      handle = w.0;
      side = w.1;
      names = w.2;
      on = w.3;
      memory = elim w.4 [
        | inl e ↦ inl (ap (λ (r : Rank). r.memory) told_is ∙ e)
        | inr e ↦ inr (e.0, e.1, e.2, e.3, ap (λ (r : Rank). r.memory) told_is ∙ e.4)
      ];
    }
