-- A turn that completes a partitioned receive leaves a side on which it waits for no box.
use Rattle.std.specs.Prelude.{ℕ, ◌≡◌, ◌≢◌, ◌⊎◌, List, Bool, true, false, Option, None, Some, if◌then◌else◌}
use Rattle.std.specs.Option.{option_map_or}
use Rattle.std.proofs.Common.{refl, sym, ap, ◌∙◌, subst}
use Rattle.std.proofs.lemmas.Option.{same_Some}
use mathlib.Core.Logic.{inl, inr}
use Rattle.mp_types.specs.declared.codes.Code.TheVariants as code
use Rattle.mp_types.specs.declared.replies.Reply.TheVariants as reply
use Rattle.mp_request.specs.declared.entries.OpenRequest.{OpenRequest}
use Rattle.mp_request.specs.declared.entries.Partitions.{Partitions}
use Rattle.mp_request.specs.declared.entries.State.{State}
use Rattle.mp_request.specs.declared.entries.State.TheVariants.{Ordinary, Inactive, Active}
use Rattle.mp_request.specs.declared.entries.Transfer.{Transfer}
use Rattle.mp_request.specs.declared.entries.Transfer.TheVariants as transfer
use Rattle.mp_request.specs.Entries.{is_active}
use Rattle.mp_request.specs.Table.{Table, has, request_at}
use Rattle.part_phase.specs.declared.phases.Phase.{Phase}
use Rattle.part_phase.specs.declared.receiving.RecvPhase.{RecvPhase}
use Rattle.part_phase.specs.Phases.{changed_at, on_receiving, receiving_at}
use Rattle.part_phase.specs.Receiving.{cut_into, is_cut, next_box}
use Rattle.cl_calls.specs.declared.calls.Completing.{Completing}
use Rattle.cl_calls.specs.declared.sites.Site.{Site}
use Rattle.cl_calls.specs.Checks.{receives_in, receiving_side}
use Rattle.cl_calls.specs.Site.{members, position_of}
use Rattle.cl_state.specs.declared.asking.Answer.{Answer}
use Rattle.cl_state.specs.declared.asking.Answer.TheVariants as answer
use Rattle.cl_state.specs.declared.asking.Doing.{Doing}
use Rattle.cl_state.specs.declared.partitions.Awaited.{Awaited}
use Rattle.cl_state.specs.declared.partitions.Awaited.TheVariants.{Nothing, Cut, Box}
use Rattle.cl_state.specs.declared.pending.Manner.{Manner}
use Rattle.cl_state.specs.declared.pending.Manner.TheVariants.{Immediate, Blocking, Polling, Posting}
use Rattle.cl_state.specs.declared.pending.Target.{Target}
use Rattle.cl_state.specs.Asked.{Part, doing, part_of}
use Rattle.cl_state.specs.Partitions.{awaited, awaited_at, awaited_by_receiver}
use Rattle.cl_state.specs.Rank.{Rank}
use Rattle.cl_state.specs.Table.{completing, row_awaited, row_completing}
use Rattle.cl_state.specs.Told.{arrived, arrived_from, ended, not_yet, taken_one, told, told_in, told_row, with_taken_box}
use Rattle.cl_deeds.specs.Deeds.{Deed, RankMoves, answer_of}
use Rattle.cl_arrival_laws.specs.Arrival.{CompletesReceive}
use Rattle.cl_arrival_laws.proofs.Reports.{by_reason}

-- ---- the row of a request that is active and receives partitions

row_is : (m : Manner) (c : Completing) (phases : List Phase) (side : Partitions) (o : Option OpenRequest)
    → receiving_side o ≡ Some side → option_map_or (λ (r : OpenRequest). is_active r.state) o false ≡ true
    → row_completing m c (awaited phases o) o
    ≡ row_awaited m (transfer.ReceivePartitions side) (completing m c 0 0)
    (awaited_by_receiver side.link (receiving_at phases side.link))
row_is m c phases side None names going = absurd (cc)
row_is m c phases side (Some r) names going = by_transfer r.transfer names
  where
    by_state : (s : State) → is_active s ≡ true
        → row_completing m c (awaited_at phases s (transfer.ReceivePartitions side))
        (Some (record { transfer = transfer.ReceivePartitions side; state = s }))
        ≡ row_awaited m (transfer.ReceivePartitions side) (completing m c 0 0)
        (awaited_by_receiver side.link (receiving_at phases side.link))
    by_state (Ordinary progress) is = refl
    by_state Inactive is = absurd (cc)
    by_state (Active progress) is = refl

    by_transfer : (t : Transfer) → receives_in t ≡ Some side
        → row_completing m c (awaited_at phases r.state t) (Some (record { transfer = t; state = r.state }))
        ≡ row_awaited m (transfer.ReceivePartitions side) (completing m c 0 0)
        (awaited_by_receiver side.link (receiving_at phases side.link))
    by_transfer (transfer.ReceivePartitions own) is =
        subst
        (λ (x : Partitions). row_completing m c (awaited_at phases r.state (transfer.ReceivePartitions x))
        (Some (record { transfer = transfer.ReceivePartitions x; state = r.state }))
        ≡ row_awaited m (transfer.ReceivePartitions side) (completing m c 0 0)
        (awaited_by_receiver side.link (receiving_at phases side.link)))
        (sym (same_Some _ _ is)) (by_state r.state going)
    by_transfer _ is = absurd (cc)

-- ---- what it leaves where it completes the request

module _ (site : Site) (side : Partitions) (handle : ℕ) (m : Manner) (target : Target) (old : Part)
    (going : has is_active old.requests handle ≡ true) where
  abbrev p : RecvPhase
  p = receiving_at old.phases side.link

  abbrev q : Part → RecvPhase
  q then_part = receiving_at then_part.phases side.link

  abbrev pub HasAll : Part → Type 0
  HasAll then_part = ((q then_part).active ≡ false) ⊎ ((p.boxes ≢ 0) × (next_box (q then_part) ≡ None))

  abbrev IsDone : Part → Type 0
  IsDone then_part = has is_active then_part.requests handle ≡ false

  -- a request that stays as it was isn't complete
  not_done : (then_part : Part) → then_part.requests ≡ old.requests → IsDone then_part → HasAll then_part
  not_done then_part same is =
      absurd (let on : true ≡ false = sym going ∙ (ap (λ (t : Table). has is_active t handle) (sym same) ∙ is) in (cc))

  still : (kind : Manner) (part : Part) → (not_yet kind part).requests ≡ part.requests
  still Immediate part = refl
  still Blocking part = refl
  still Polling part = refl
  still Posting part = refl

  arrives_from : (o : Option ℕ) (part : Part) → (arrived_from o side target part).phases ≡ part.phases
  arrives_from None part = refl
  arrives_from (Some place) part = refl

  arrives : (part : Part) → (arrived site side target part).phases ≡ part.phases
  unfolding arrived
  arrives part = arrives_from (position_of side.peer (members site side.comm)) part

  abbrev Says : Awaited → Type 0
  Says w =
      (a : Answer) → IsDone (told_row site (row_awaited m (transfer.ReceivePartitions side) target w) a old)
      → HasAll (told_row site (row_awaited m (transfer.ReceivePartitions side) target w) a old)

  idle_says : p.active ≡ false → Says Nothing
  idle_says off a is = inl (ap (λ ps. (receiving_at ps side.link).active) (arrives old) ∙ off)

  none_says : p.boxes ≢ 0 → next_box p ≡ None → Says Nothing
  none_says some none a is = inr (some, ap (λ ps. next_box (receiving_at ps side.link)) (arrives old) ∙ none)

  cut_says : Says (Cut side.link)
  cut_says (answer.Reply (reply.Cut boxes bytes)) is =
      go (is_cut site.version (receiving_at old.phases side.link) boxes bytes) is
    where
      cut_if : Bool → Part
      cut_if b =
          if b
          then not_yet m (record old { phases = changed_at side.link (on_receiving (cut_into boxes bytes)) old.phases })
          else ended code.BadRequest 0 old

      go : (b : Bool) → IsDone (cut_if b) → HasAll (cut_if b)
      go true is = not_done (cut_if true) (still m _) is
      go false is = not_done (cut_if false) refl is
  cut_says (answer.Reply reply.NotYet) is = not_done (not_yet m old) (still m old) is
  cut_says (answer.Reply (reply.Code c)) is = not_done (ended c 0 old) refl is
  cut_says a is = not_done (ended code.BadRequest 0 old) refl is

  box_says : (box : ℕ) → p.boxes ≢ 0 → Says (Box side.link box)
  unfolding taken_one
  box_says box some (answer.Taken bytes) is = go (q after).active refl is
    where
      after : Part
      after = with_taken_box side box bytes old

      took_if : Bool → Part
      took_if b = if b then not_yet m after else arrived site side target after

      go : (b : Bool) → (q after).active ≡ b → IsDone (took_if b) → HasAll (took_if b)
      go true on is = not_done (took_if true) (still m after) is
      go false off is = inl (ap (λ ps. (receiving_at ps side.link).active) (arrives after) ∙ off)
  box_says box some answer.Missed is = not_done (not_yet m old) (still m old) is
  box_says box some a is = not_done (ended code.BadRequest 0 old) refl is

  says : Says (awaited_by_receiver side.link p)
  says = by_reason Says side.link p (next_box p) idle_says none_says cut_says box_says

-- ---- a rank's turn

module _ (old new : Rank) (d : Deed) (link : ℕ) (move : RankMoves old d new) (h : CompletesReceive old d link) where
  abbrev turned : Doing → Part
  turned doing = told_in old.site d.hart doing (answer_of d.act) (part_of old d.hart)

  abbrev row_told : Manner → Part
  row_told m =
      told_row old.site
      (row_awaited m (transfer.ReceivePartitions h.side) (completing m h.completing 0 0)
      (awaited_by_receiver h.side.link (receiving_at old.phases h.side.link)))
      (answer_of d.act) (part_of old d.hart)

  with_row : (m : Manner)
      → told_row old.site
      (row_completing m h.completing (awaited old.phases (request_at old.requests h.completing.handle))
      (request_at old.requests h.completing.handle)) (answer_of d.act) (part_of old d.hart)
      ≡ row_told m
  with_row m =
      ap (λ row. told_row old.site row (answer_of d.act) (part_of old d.hart))
      (row_is m h.completing old.phases h.side (request_at old.requests h.completing.handle) h.names h.going)

  abbrev pub Leaves : RecvPhase → Type 0
  Leaves q =
      (q.active ≡ false) ⊎ (((receiving_at old.phases link).boxes ≢ 0) × (next_box q ≡ None))

  of_manner : (m : Manner) → turned (doing old.site (part_of old d.hart)) ≡ row_told m
      → Leaves (receiving_at new.phases link)
  unfolding told
  of_manner m same =
      subst
      (λ l. ((receiving_at new.phases l).active ≡ false)
      ⊎ (((receiving_at old.phases l).boxes ≢ 0) × (next_box (receiving_at new.phases l) ≡ None))) h.on
      (subst
      (λ ps. ((receiving_at ps h.side.link).active ≡ false)
      ⊎ (((receiving_at old.phases h.side.link).boxes ≢ 0) × (next_box (receiving_at ps h.side.link) ≡ None)))
      (sym phases_are)
      (says old.site h.side h.completing.handle m (completing m h.completing 0 0) (part_of old d.hart) h.going
      (answer_of d.act) done))
    where
      phases_are : new.phases ≡ (row_told m).phases
      phases_are = ap (λ (r : Rank). r.phases) move.4 ∙ ap (λ (t : Part). t.phases) same

      done : has is_active (row_told m).requests h.completing.handle ≡ false
      done = ap (λ (t : Part). has is_active t.requests h.completing.handle) (sym same) ∙ h.complete

  -- after a turn that completes a receive the phase has ended, or no box is left
  pub has_all : Leaves (receiving_at new.phases link)
  has_all =
      elim h.calls [
        | inl test ↦ of_manner Immediate (ap turned test ∙ with_row Immediate)
        | inr wait ↦ of_manner Blocking (ap turned wait ∙ with_row Blocking)
      ]
