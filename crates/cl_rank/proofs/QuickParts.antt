-- PREADYs and PARRIVEDs that are worked out straight from the registers are turns that the table of calls has: they ask what
-- it says, have its rows, and need no page more.
use Rattle.std.proofs.Common.{◌≡◌, ℕ, ◌<◌, ◌==◌, List, [], ◌∷◌, length, Bool, true, false, Option, Some, None}
use Rattle.std.proofs.Common.{refl, sym, ap, subst, ◌∙◌, ◌+◌, arith}
use Rattle.std.specs.Prelude.{◌*◌, get_or, is_some, nat_lt, not, vec_len}
use Rattle.std.proofs.lemmas.Bool.{ne_eqb}
use Rattle.std.proofs.lemmas.List.{get_or_read_under}
use Rattle.rv_hart.specs.State.{State, read}
use Rattle.rv_hart.specs.declared.state.Mode.TheVariants.{Running as Runs}
use Rattle.rv_memory.specs.Access.{word_at}
use Rattle.rv_memory.specs.Memory.{bytes_at}
use Rattle.mp_request.specs.declared.entries.Partitions.{Partitions}
use Rattle.part_phase.specs.declared.receiving.RecvPhase.{RecvPhase}
use Rattle.part_phase.specs.declared.sending.SendPhase.{SendPhase}
use Rattle.part_phase.specs.Phases.{receiving_at, sending_at}
use Rattle.part_phase.specs.Receiving.{next_box_of}
use Rattle.part_phase.specs.Sending.{all_freed, is_part_ready}
use Rattle.cl_calls.specs.declared.calls.Call.TheVariants as call
use Rattle.cl_calls.specs.declared.needs.Named.TheVariants.{ReceivePart, SendPart}
use Rattle.cl_calls.specs.Calls.{argument, call_named, call_rows, row_at}
use Rattle.cl_calls.specs.Checks.{checks, first_fault, holds_of_receiver, holds_of_sender, is_going, is_named, is_part}
use Rattle.cl_calls.specs.Checks.{is_unready}
use Rattle.cl_calls.specs.Needs.{needs_of}
use Rattle.cl_state.specs.declared.asking.Ask.TheVariants as ask
use Rattle.cl_state.specs.declared.asking.Doing.TheVariants.{Go}
use Rattle.cl_state.specs.declared.partitions.Awaited.TheVariants.{Box}
use Rattle.cl_state.specs.declared.pending.Manner.TheVariants.{Immediate}
use Rattle.cl_state.specs.declared.row.Row.TheVariants.{OnBox}
use Rattle.cl_state.specs.declared.row.Visit.TheVariants.{Readies, Sees}
use Rattle.cl_state.specs.declared.state.RankState.{RankState}
use Rattle.cl_state.specs.Asked.{asked, asked_in, is_ecall, no_hart, part_of}
use Rattle.cl_state.specs.Partitions.{asked_arrived, asked_awaited, asked_ready, awaited_in, awaited_of_part, boxed}
use Rattle.cl_state.specs.Right.{IsChecked}
use Rattle.cl_state.specs.Room.{rank_of}
use Rattle.cl_state.specs.Table.{row_arrived, row_of_part, row_ready}
use Rattle.cl_state.specs.Writes.{IsEnough, box_into, writes_by, writes_in}
use Rattle.cl_state.proofs.Pages.{enough_missing}
use Rattle.cl_rank.specs.Known.{IsKnown}
use Rattle.cl_rank.specs.QuickParts.{AwaitsBox, MayBeReady}
use Rattle.cl_rank.proofs.Known.{does_call}

is_not : (b : Bool) → b ≡ false → not b ≡ true
is_not b h = ap not h

-- ---- PREADY

-- the call of number 42
names_ready : (at : State) (handle part : ℕ) → read at 17 ≡ 42 → handle ≡ read at 10 → part ≡ read at 11
    → call.Pready handle part ≡ call_named at
names_ready at handle part number first second =
    ap (λ (n : ℕ). call.Pready n part) first ∙ ap (λ (n : ℕ). call.Pready (read at 10) n) second
    ∙ sym (ap (λ n. row_at n (call_rows (argument at))) number)

module _ (state : RankState) (handle part : ℕ) (side : Partitions) (may : MayBeReady state handle part side) where
  ready_named : is_named state.requests (SendPart handle part) ≡ true
  ready_named = ap is_some may.of

  ready_part : is_part state.requests state.phases (SendPart handle part) ≡ true
  ready_part = ap (holds_of_sender (λ (p : SendPhase). nat_lt part p.parts) state.phases) may.of ∙ may.within

  ready_going : is_going state.requests state.phases (SendPart handle part) ≡ true
  ready_going =
      ap (holds_of_sender (λ (p : SendPhase). not (all_freed p)) state.phases) may.of
      ∙ is_not (all_freed (sending_at state.phases side.link)) may.going

  ready_unready : is_unready state.requests state.phases (SendPart handle part) ≡ true
  ready_unready =
      ap (holds_of_sender (λ (p : SendPhase). not (is_part_ready p part)) state.phases) may.of
      ∙ is_not (is_part_ready (sending_at state.phases side.link) part) may.unready

  ready_is_right : (written : ℕ) → first_fault
      (checks state.site state.memory state.requests state.phases written (needs_of (call.Pready handle part))) ≡ None
  ready_is_right written =
      let named = ready_named in
      let its_part = ready_part in
      let going = ready_going in
      let unready = ready_unready in
      rw (named, its_part, going, unready) refl

  ready_is_checked : IsChecked state.site state.memory state.requests state.phases (Go (call.Pready handle part))
  ready_is_checked = (
    (refl, refl, refl, refl, refl, refl),
    record { named = ready_named; idle = refl; part = ready_part; going = ready_going; unready = ready_unready },
    (refl, refl),
  )

ready_so : (state : RankState) (hart : ℕ) (at : State) (handle part : ℕ) (side : Partitions) (bytes : List ℕ)
    → at ≡ get_or state.harts.items hart at → hart < vec_len state.harts → at.mode ≡ Runs
    → is_ecall (word_at state.memory at.pc) ≡ true → read at 17 ≡ 42 → handle ≡ read at 10 → part ≡ read at 11
    → MayBeReady state handle part side
    → bytes ≡ boxed state.site.version (bytes_at state.memory (side.buffer + part * side.size) side.size)
    → IsKnown state (record { hart = hart; doing = Go (call.Pready handle part); row = OnBox (Readies side.link part) })
    (ask.Ready side.link part bytes)
unfolding asked
ready_so state hart at handle part side bytes read_at there running ecall number first second may boxes =
    let turns = part_of (rank_of state) hart in
    let here = get_or_read_under state.harts.items hart (vec_len state.harts) at no_hart read_at there state.harts.ok.0 in
    let goes = does_call state.site turns at (call.Pready handle part) here running ecall
    (names_ready at handle part number first second) (ready_is_right state handle part side may (length turns.out)) in
    let its_row = ap (row_ready part) may.of in
    let writes = ap (λ d. writes_in state.site hart d turns) goes ∙ ap (writes_by turns) its_row in
    record {
      next = record {
        there = there;
        spelled = sym goes;
        right = ready_is_checked state handle part side may;
        running = tt;
      };
      row = sym its_row;
      asks_for = ap (asked_in state.site state.memory state.requests state.phases) goes
          ∙ ap (asked_ready state.site state.memory part) may.of ∙ ap (ask.Ready side.link part) (sym boxes);
      quiet = refl;
      pages = subst (λ rs. IsEnough state.memory.pages state.spares rs) (sym writes) (omega arith);
    }

-- and so does a partition that has the same number
pub known_ready : (state : RankState) (hart : ℕ) (at : State) (handle part place : ℕ) (side : Partitions) (bytes : List ℕ)
    → at ≡ get_or state.harts.items hart at → hart < vec_len state.harts → at.mode ≡ Runs
    → is_ecall (word_at state.memory at.pc) ≡ true → read at 17 ≡ 42 → handle ≡ read at 10 → part ≡ read at 11
    → MayBeReady state handle part side → place ≡ part
    → bytes ≡ boxed state.site.version (bytes_at state.memory (side.buffer + place * side.size) side.size)
    → IsKnown state (record { hart = hart; doing = Go (call.Pready handle part); row = OnBox (Readies side.link place) })
    (ask.Ready side.link place bytes)
known_ready state hart at handle part place side bytes read_at there running ecall number first second may same boxes =
    subst (λ (n : ℕ). IsKnown state
    (record { hart = hart; doing = Go (call.Pready handle part); row = OnBox (Readies side.link n) })
    (ask.Ready side.link n bytes)) (sym same)
    (ready_so state hart at handle part side bytes read_at there running ecall number first second may
    (boxes ∙ ap (λ (n : ℕ). boxed state.site.version (bytes_at state.memory (side.buffer + n * side.size) side.size)) same))

-- ---- PARRIVED

-- the call of number 43
names_arrived : (at : State) (handle part : ℕ) → read at 17 ≡ 43 → handle ≡ read at 10 → part ≡ read at 11
    → call.Parrived handle part ≡ call_named at
names_arrived at handle part number first second =
    ap (λ (n : ℕ). call.Parrived n part) first ∙ ap (λ (n : ℕ). call.Parrived (read at 10) n) second
    ∙ sym (ap (λ n. row_at n (call_rows (argument at))) number)

-- a phase that is going on, whose cut is known, awaits the next box of a partition
awaits_next : (link : ℕ) (p : RecvPhase) (part box : ℕ) → p.active ≡ true → (p.boxes == 0) ≡ false
    → next_box_of p part ≡ Some box → awaited_of_part link p part ≡ Box link box
awaits_next link p part box active cut next = ap (λ (o : Option ℕ). awaited_in link p o) next ∙ rw (active, cut) refl

module _ (state : RankState) (handle part : ℕ) (side : Partitions) (box : ℕ)
    (awaits : AwaitsBox state handle part side box) where
  arrived_named : is_named state.requests (ReceivePart handle part) ≡ true
  arrived_named = ap is_some awaits.of

  arrived_part : is_part state.requests state.phases (ReceivePart handle part) ≡ true
  arrived_part = ap (holds_of_receiver (λ (p : RecvPhase). nat_lt part p.parts) state.phases) awaits.of ∙ awaits.within

  arrived_is_right : (written : ℕ) → first_fault
      (checks state.site state.memory state.requests state.phases written (needs_of (call.Parrived handle part))) ≡ None
  arrived_is_right written =
      let named = arrived_named in
      let its_part = arrived_part in
      rw (named, its_part) refl

  arrived_is_checked : IsChecked state.site state.memory state.requests state.phases (Go (call.Parrived handle part))
  arrived_is_checked = (
    (refl, refl, refl, refl, refl, refl),
    record { named = arrived_named; idle = refl; part = arrived_part; going = refl; unready = refl },
    (refl, refl),
  )

  arrived_awaits : awaited_of_part side.link (receiving_at state.phases side.link) part ≡ Box side.link box
  arrived_awaits =
      awaits_next side.link (receiving_at state.phases side.link) part box awaits.active
      (ne_eqb (receiving_at state.phases side.link).boxes 0 awaits.cut) awaits.next

arrived_so : (state : RankState) (hart : ℕ) (at : State) (handle part : ℕ) (side : Partitions) (box : ℕ)
    → at ≡ get_or state.harts.items hart at → hart < vec_len state.harts → at.mode ≡ Runs
    → is_ecall (word_at state.memory at.pc) ≡ true → read at 17 ≡ 43 → handle ≡ read at 10 → part ≡ read at 11
    → AwaitsBox state handle part side box
    → IsKnown state (record { hart = hart; doing = Go (call.Parrived handle part); row = OnBox (Sees side box part) })
    (ask.Look side.link box)
unfolding asked
arrived_so state hart at handle part side box read_at there running ecall number first second awaits =
    let turns = part_of (rank_of state) hart in
    let here = get_or_read_under state.harts.items hart (vec_len state.harts) at no_hart read_at there state.harts.ok.0 in
    let goes = does_call state.site turns at (call.Parrived handle part) here running ecall
    (names_arrived at handle part number first second)
    (arrived_is_right state handle part side box awaits (length turns.out)) in
    let box_is = arrived_awaits state handle part side box awaits in
    let its_row = ap (row_arrived state.phases part) awaits.of ∙ ap (row_of_part side part) box_is in
    let writes = ap (λ d. writes_in state.site hart d turns) goes ∙ ap (writes_by turns) its_row in
    record {
      next = record {
        there = there;
        spelled = sym goes;
        right = arrived_is_checked state handle part side box awaits;
        running = tt;
      };
      row = sym its_row;
      asks_for = ap (asked_in state.site state.memory state.requests state.phases) goes
          ∙ ap (asked_arrived state.phases part) awaits.of ∙ ap (asked_awaited Immediate) box_is;
      quiet = refl;
      pages = subst (λ rs. IsEnough state.memory.pages state.spares rs) (sym writes)
          (enough_missing state.memory.pages state.spares (box_into state.phases side box ∷ []) (omega (arith, awaits.pages)));
    }

-- and so does a partition that has the same number
pub known_arrived : (state : RankState) (hart : ℕ) (at : State) (handle part asked : ℕ) (side : Partitions) (box : ℕ)
    → at ≡ get_or state.harts.items hart at → hart < vec_len state.harts → at.mode ≡ Runs
    → is_ecall (word_at state.memory at.pc) ≡ true → read at 17 ≡ 43 → handle ≡ read at 10 → part ≡ read at 11
    → AwaitsBox state handle part side box → asked ≡ part
    → IsKnown state (record { hart = hart; doing = Go (call.Parrived handle part); row = OnBox (Sees side box asked) })
    (ask.Look side.link box)
known_arrived state hart at handle part asked side box read_at there running ecall number first second awaits same =
    subst (λ (n : ℕ). IsKnown state
    (record { hart = hart; doing = Go (call.Parrived handle part); row = OnBox (Sees side box n) }) (ask.Look side.link box))
    (sym same)
    (arrived_so state hart at handle part side box read_at there running ecall number first second awaits)
