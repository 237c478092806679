-- A turn that reports a partition arrived leaves a side on which it waits for no box.
use Rattle.std.specs.Prelude.{ℕ, ◌<◌, ◌≡◌, ◌≢◌, ◌⊎◌, ◌==◌, Bool, true, false, length, set, Option, None, Some}
use Rattle.std.specs.Prelude.{if◌then◌else◌, is_some, IsTrue, nat_lt, not}
use Rattle.std.proofs.Common.{refl, sym, ap, ◌∙◌, subst, arith}
use Rattle.std.proofs.lemmas.Bool.{ltb-true}
use Rattle.std.proofs.lemmas.Bool.Decides.{eqb_tells}
use Rattle.std.proofs.lemmas.List.{get_or-set_same, length-set}
use mathlib.Core.Logic.{inl, inr}
use Rattle.rv_hart.specs.State.{State, read}
use Rattle.mp_types.specs.Codes.{code_number}
use Rattle.mp_types.specs.declared.codes.Code.{Code}
use Rattle.mp_types.specs.declared.codes.Code.TheVariants as code
use Rattle.mp_types.specs.declared.replies.Reply.TheVariants as reply
use Rattle.mp_request.specs.declared.entries.Partitions.{Partitions}
use Rattle.part_phase.specs.declared.receiving.RecvPhase.{RecvPhase}
use Rattle.part_phase.specs.Phases.{changed_at, on_receiving, receiving_at}
use Rattle.part_phase.specs.Receiving.{cut_into, is_cut, next_box_of}
use Rattle.cl_calls.specs.declared.calls.Call.TheVariants as call
use Rattle.cl_calls.specs.declared.sites.Site.{Site}
use Rattle.cl_calls.specs.Checks.{holds_of_receiver}
use Rattle.cl_state.specs.declared.asking.Answer.{Answer}
use Rattle.cl_state.specs.declared.asking.Answer.TheVariants as answer
use Rattle.cl_state.specs.declared.asking.Doing.TheVariants.{Go}
use Rattle.cl_state.specs.declared.asking.Doing.{Doing}
use Rattle.cl_state.specs.declared.partitions.Awaited.{Awaited}
use Rattle.cl_state.specs.declared.partitions.Awaited.TheVariants.{Nothing, Cut, Box}
use Rattle.cl_state.specs.declared.pending.Manner.TheVariants.{Immediate}
use Rattle.cl_state.specs.Asked.{Part, doing, no_hart, part_of}
use Rattle.cl_state.specs.Partitions.{awaited_in, awaited_of_part, box_of}
use Rattle.cl_state.specs.Rank.{Rank}
use Rattle.cl_state.specs.Table.{row_arrived, row_of_part}
use Rattle.cl_state.specs.Told.{ended, not_yet, returned, seen_one, told, told_in, told_row, with_taken_box}
use Rattle.cl_state.proofs.Passed.{HasPassed, passed}
use Rattle.cl_state_laws.specs.Registers.{HasRegisters}
use Rattle.cl_deeds.specs.Deeds.{Deed, RankMoves, answer_of}
use Rattle.cl_arrival_laws.specs.Arrival.{SeesArrived}

-- what is awaited, with the reason
pub by_reason : (P : Awaited → Type 0) (link : ℕ) (p : RecvPhase) (next : Option ℕ)
    → (p.active ≡ false → P Nothing)
    → (p.boxes ≢ 0 → next ≡ None → P Nothing)
    → P (Cut link)
    → ((box : ℕ) → p.boxes ≢ 0 → P (Box link box))
    → P (awaited_in link p next)
by_reason P link p next idle none cut box = going p.active refl
  where
    boxed : p.boxes ≢ 0 → (o : Option ℕ) → next ≡ o → P (box_of link o)
    boxed some None is = none some is
    boxed some (Some b) is = box b some

    known : P (if (p.boxes == 0) then Cut link else box_of link next)
    known =
        elim (eqb_tells p.boxes 0) [
          | inl e ↦ subst (λ b. P (if b then Cut link else box_of link next)) (sym e.0) cut
          | inr e ↦ subst (λ b. P (if b then Cut link else box_of link next)) (sym e.0) (boxed e.1 next refl)
        ]

    going : (b : Bool) → p.active ≡ b
        → P (if not b then Nothing else if (p.boxes == 0) then Cut link else box_of link next)
    going true is = known
    going false is = idle is

value_of : (c : Code) (v : ℕ) (hart : State) → length hart.regs ≡ 32 → read (returned c v hart) 11 ≡ v
unfolding returned
value_of c v hart long =
    get_or-set_same (set hart.regs 10 (code_number c)) 11 v 0
    (omega (arith, long, length-set hart.regs 10 (code_number c)))

module _ (site : Site) (side : Partitions) (part : ℕ) (old : Part) (long : length old.hart.regs ≡ 32) where
  abbrev p : RecvPhase
  p = receiving_at old.phases side.link

  abbrev pub WaitsForNone : Part → Type 0
  WaitsForNone then_part =
      ((receiving_at then_part.phases side.link).active ≡ false)
      ⊎ ((p.boxes ≢ 0) × (next_box_of (receiving_at then_part.phases side.link) part ≡ None))

  -- a return with flag 0 reports nothing
  no_report : (c : Code) (then_part : Part) → then_part.hart ≡ returned c 0 old.hart → read then_part.hart 11 ≡ 1
      → WaitsForNone then_part
  no_report c then_part is flag =
      absurd (let zero_is = ap (λ h. read h 11) is ∙ value_of c 0 old.hart long in omega (arith, zero_is, flag))

  abbrev Says : Awaited → Type 0
  Says w = (a : Answer) → read (told_row site (row_of_part side part w) a old).hart 11 ≡ 1
      → WaitsForNone (told_row site (row_of_part side part w) a old)

  cut_says : Says (Cut side.link)
  cut_says (answer.Reply (reply.Cut boxes bytes)) flag =
      go (is_cut site.version (receiving_at old.phases side.link) boxes bytes) flag
    where
      cut_if : Bool → Part
      cut_if b =
          if b
          then not_yet Immediate
          (record old { phases = changed_at side.link (on_receiving (cut_into boxes bytes)) old.phases })
          else ended code.BadRequest 0 old

      go : (b : Bool) → read (cut_if b).hart 11 ≡ 1 → WaitsForNone (cut_if b)
      go true flag = no_report code.Ok (cut_if true) refl flag
      go false flag = no_report code.BadRequest (cut_if false) refl flag
  cut_says (answer.Reply reply.NotYet) flag = no_report code.Ok (ended code.Ok 0 old) refl flag
  cut_says (answer.Reply (reply.Code c)) flag = no_report c (ended c 0 old) refl flag
  cut_says a flag = no_report code.BadRequest (ended code.BadRequest 0 old) refl flag

  box_says : (box : ℕ) → p.boxes ≢ 0 → Says (Box side.link box)
  unfolding seen_one
  box_says box some (answer.Taken bytes) flag =
      go (next_box_of (receiving_at (with_taken_box side box bytes old).phases side.link) part) refl
    where
      flag_for : Option ℕ → ℕ
      flag_for o = if is_some o then 0 else 1

      value_is : flag_for (next_box_of (receiving_at (with_taken_box side box bytes old).phases side.link) part) ≡ 1
      value_is =
          sym (value_of code.Ok
          (flag_for (next_box_of (receiving_at (with_taken_box side box bytes old).phases side.link) part))
          old.hart long) ∙ flag

      go : (o : Option ℕ) → next_box_of (receiving_at (with_taken_box side box bytes old).phases side.link) part ≡ o
          → WaitsForNone (seen_one side box part bytes old)
      go None is = inr (some, is)
      go (Some b) is =
          absurd (let e = sym (ap flag_for is) ∙ value_is in omega (arith, e))
  box_says box some answer.Missed flag = no_report code.Ok (ended code.Ok 0 old) refl flag
  box_says box some a flag = no_report code.BadRequest (ended code.BadRequest 0 old) refl flag

  says : Says (awaited_of_part side.link p part)
  says =
      by_reason Says side.link p (next_box_of p part) (λ off a flag. inl off) (λ some none a flag. inr (some, none))
      cut_says box_says

-- ---- a rank's turn

module _ (old new : Rank) (d : Deed) (link part : ℕ) (move : RankMoves old d new) (has : HasRegisters old)
    (h : SeesArrived old d link part) where
  abbrev turned : Doing → Part
  turned doing = told_in old.site d.hart doing (answer_of d.act) (part_of old d.hart)

  abbrev row_told : Part
  row_told =
      told_row old.site (row_of_part h.side part (awaited_of_part h.side.link
      (receiving_at old.phases h.side.link) part))
      (answer_of d.act) (part_of old d.hart)

  same : turned (doing old.site (part_of old d.hart)) ≡ row_told
  same =
      ap turned h.calls
      ∙ ap (λ o. told_row old.site (row_arrived old.phases part o) (answer_of d.act) (part_of old d.hart)) h.names

  flag_is : read row_told.hart 11 ≡ 1
  unfolding told
  flag_is =
      ap (λ (t : Part). read t.hart 11) (sym same)
      ∙ (ap (λ (x : State). read x 11)
      (sym (get_or-set_same old.harts d.hart (turned (doing old.site
      (part_of old d.hart))).hart no_hart move.0)) ∙ h.flag)

  phases_are : new.phases ≡ row_told.phases
  unfolding told
  phases_are = ap (λ (r : Rank). r.phases) move.4 ∙ ap (λ (t : Part). t.phases) same

  -- after a turn that reports a partition the phase has ended, or the partition waits for no box
  pub waits_for_none : ((receiving_at new.phases link).active ≡ false)
      ⊎ (((receiving_at old.phases link).boxes ≢ 0) × (next_box_of (receiving_at new.phases link) part ≡ None))
  waits_for_none =
      subst (λ l. ((receiving_at new.phases l).active ≡ false)
      ⊎ (((receiving_at old.phases l).boxes ≢ 0) × (next_box_of (receiving_at new.phases l) part ≡ None))) h.on
      (subst (λ ps. ((receiving_at ps h.side.link).active ≡ false)
      ⊎ (((receiving_at old.phases h.side.link).boxes ≢ 0)
      × (next_box_of (receiving_at ps h.side.link) part ≡ None)))
      (sym phases_are)
      (says old.site h.side part (part_of old d.hart) (has d.hart move.0) (answer_of d.act) flag_is))

  -- and it is one of the side's
  pub is_its_part : part < (receiving_at old.phases link).parts
  is_its_part =
      subst (λ l. part < (receiving_at old.phases l).parts) h.on
      (ltb-true part (receiving_at old.phases h.side.link).parts
      (subst (λ o. IsTrue (holds_of_receiver
      (λ p. nat_lt part p.parts) old.phases o)) h.names checked.1.1.1.1.1.1.1.0))
    where
      checked : HasPassed old.site (part_of old d.hart) (Go (call.Parrived h.handle part))
      checked = subst (HasPassed old.site (part_of old d.hart)) h.calls (passed old.site (part_of old d.hart))
