-- What each act makes of a rank's phases, and of the gate of one box.
use Rattle.std.specs.Prelude.{ℕ, ◌<◌, ◌≤◌, ◌≡◌, ◌≢◌, ◌⊎◌, List, slice_get, true}
use Rattle.std.specs.Prelude.{Option, None, Some}
use Rattle.std.specs.Option.{option_map}
use Rattle.std.proofs.Common.{refl, sym, ◌∙◌, subst, arith}
use Rattle.std.proofs.lemmas.Bool.{eqb-true}
use Rattle.std.proofs.lemmas.Bool.Decides.{eqb_tells}
use mathlib.Core.Logic.{inl, inr}
use Rattle.rv_image_types.specs.declared.images.ImageVersion.{ImageVersion}
use Rattle.rv_image_types.specs.declared.images.Link.{Link}
use Rattle.part_phase.specs.declared.phases.Phase.{Phase}
use Rattle.part_phase.specs.declared.phases.Phase.TheVariants.{Apart, Sending, Receiving}
use Rattle.part_phase.specs.declared.receiving.RecvPhase.{RecvPhase}
use Rattle.part_phase.specs.declared.sending.SendPhase.{SendPhase}
use Rattle.part_phase.specs.Phases.{begun, changed_at, is_unshaped_sending, on_receiving, on_sending}
use Rattle.part_phase.specs.Phases.{receiving_at, sending_at, sending_in}
use Rattle.part_phase.specs.Receiving.{cut_into, one_taken, shaped_receiving}
use Rattle.part_phase.specs.Sending.{one_freed, readied, shaped_sending}
use Rattle.cl_deeds.specs.Deeds.{Act}
use Rattle.cl_machine.specs.Joined.{OnItsSide}
use Rattle.cl_box_laws.specs.Gates.{Gate}
use Rattle.cl_box_laws.proofs.Moves.{ActMoves, Begins, HubMoves, MayAskFreed, MayReady}
use Rattle.cl_box_laws.proofs.Moves.{ShapesSending}
use Rattle.cl_box_laws.proofs.Sides.{AreSides, begun_side, changed_other, changed_same, few_boxes, few_parts}
use Rattle.cl_box_laws.proofs.Sides.{on_receiving_side, on_sending_side, receives_on, sends_on, sides_changed}
use Rattle.cl_box_laws.proofs.Stands.{Stands, stands_begun, stands_beside, stands_freed, stands_freed_beside, stands_made}
use Rattle.cl_box_laws.proofs.Stands.{stands_shaped}

-- ---- sides

module _ (links : List Link) (rank : ℕ) (version : ImageVersion) (old new : List Phase)
    (h : AreSides links rank old) where
  same_sides : new ≡ old → AreSides links rank new
  same_sides e = subst (AreSides links rank) (sym e) h

  other_sides : (link : ℕ) (f : Phase → Phase) → new ≡ changed_at link f old
      → AreSides links rank (changed_at link f old) → AreSides links rank new
  other_sides link f e k = subst (AreSides links rank) (sym e) k

  local_sides : (new ≡ old) ⊎ Begins old new → AreSides links rank new
  local_sides (inl e) = same_sides e
  local_sides (inr m) = other_sides m.0 begun m.1 (sides_changed links rank old h m.0 begun (begun_side rank))

  sending_sides : (link : ℕ) (change : SendPhase → SendPhase)
      → ((p : SendPhase) → p.parts ≤ 16 → (change p).parts ≤ 16)
      → new ≡ changed_at link (on_sending change) old → AreSides links rank new
  sending_sides link change few e =
      other_sides link (on_sending change) e
      (sides_changed links rank old h link (on_sending change) (on_sending_side rank change few))

  receiving_sides : (link : ℕ) (change : RecvPhase → RecvPhase)
      → ((p : RecvPhase) → p.boxes ≤ 16 → (change p).boxes ≤ 16)
      → new ≡ changed_at link (on_receiving change) old → AreSides links rank new
  receiving_sides link change few e =
      other_sides link (on_receiving change) e
      (sides_changed links rank old h link (on_receiving change) (on_receiving_side rank change few))

  hub_sides : HubMoves version old new → AreSides links rank new
  hub_sides (inl e) = same_sides e
  hub_sides (inr (inl m)) = sending_sides m.0 (shaped_sending m.1 m.2) (λ p few. few_parts m.1 m.4) m.5
  hub_sides (inr (inr (inl m))) = receiving_sides m.0 (shaped_receiving m.1 m.2) (λ p few. few) m.3
  hub_sides (inr (inr (inr m))) =
      receiving_sides m.0 (cut_into m.1 m.2) (λ p few. few_boxes version (receiving_at old m.0) m.1 m.2 m.3) m.4

  pub sides_kept : (a : Act) → ActMoves version a old new → AreSides links rank new
  sides_kept Act.Plain m = same_sides m
  sides_kept Act.Local m = local_sides m
  sides_kept (Act.Hub clock request reply) m = hub_sides m
  sides_kept (Act.Ready link part bytes) m = sending_sides link (readied part) (λ p few. few) m.1
  sides_kept (Act.Take link part gate bytes) m = receiving_sides link (one_taken part) (λ p few. few) m.1
  sides_kept (Act.Miss link part) m = same_sides m
  sides_kept (Act.Freed link part gate) m = sending_sides link one_freed (λ p few. few) m.1
  sides_kept Act.Held m = same_sides m
  sides_kept Act.Idle m = same_sides m

  pub on_its_side : (a : Act) → ActMoves version a old new → OnItsSide links rank a
  on_its_side (Act.Ready link part bytes) m = sends_on links rank old link part h m.0.0
  on_its_side (Act.Freed link part gate) m = sends_on links rank old link part h m.0.0
  on_its_side (Act.Take link part gate bytes) m = receives_on links rank old link part h m.0
  on_its_side Act.Plain m = tt
  on_its_side Act.Local m = tt
  on_its_side (Act.Hub clock request reply) m = tt
  on_its_side (Act.Miss link part) m = tt
  on_its_side Act.Held m = tt
  on_its_side Act.Idle m = tt

-- ---- the gate of box i of link k

its_sending : (change : SendPhase → SendPhase) (o : Option Phase) → 0 < (sending_in o).parts
    → sending_in (option_map (on_sending change) o) ≡ change (sending_in o)
its_sending change None low = absurd (omega (arith, low))
its_sending change (Some Apart) low = absurd (omega (arith, low))
its_sending change (Some (Sending p)) low = refl
its_sending change (Some (Receiving p)) low = absurd (omega (arith, low))

its_shape : (change : SendPhase → SendPhase) (o : Option Phase) → is_unshaped_sending o ≡ true
    → ((sending_in o).parts ≡ 0) × (sending_in (option_map (on_sending change) o) ≡ change (sending_in o))
its_shape change None e = absurd (cc)
its_shape change (Some Apart) e = absurd (cc)
its_shape change (Some (Sending p)) e = (eqb-true p.parts 0 e, refl)
its_shape change (Some (Receiving p)) e = absurd (cc)

not_its : (change : RecvPhase → RecvPhase) (o : Option Phase)
    → sending_in (option_map (on_receiving change) o) ≡ sending_in o
not_its change None = refl
not_its change (Some Apart) = refl
not_its change (Some (Sending p)) = refl
not_its change (Some (Receiving p)) = refl

module _ (i k : ℕ) (gate : Gate) (old new : List Phase) (h : Stands i (sending_at old k) gate) where
  pub same_stands : new ≡ old → Stands i (sending_at new k) gate
  same_stands e = subst (λ ps. Stands i (sending_at ps k) gate) (sym e) h

  -- the phase of this link changed, or another
  stands_at : (link : ℕ) (f : Phase → Phase) (then : Gate) → new ≡ changed_at link f old
      → (link ≡ k → Stands i (sending_in (option_map f (slice_get old k))) then)
      → (link ≢ k → Stands i (sending_at old k) then)
      → Stands i (sending_at new k) then
  stands_at link f then e here there =
      subst (λ ps. Stands i (sending_at ps k) then) (sym e)
      (elim (eqb_tells link k) [
        | inl same ↦ subst (λ j. Stands i (sending_in (slice_get (changed_at j f old) k)) then) (sym same.1)
            (subst (λ o. Stands i (sending_in o) then) (sym (changed_same k f old)) (here same.1))
        | inr other ↦ subst (λ o. Stands i (sending_in o) then) (sym (changed_other link k f old other.1))
            (there other.1)
      ])

  pub begun_stands : (link : ℕ) → new ≡ changed_at link begun old → Stands i (sending_at new k) gate
  begun_stands link e = stands_at link begun gate e (λ same. go (slice_get old k) h) (λ other. h)
    where
      go : (o : Option Phase) → Stands i (sending_in o) gate → Stands i (sending_in (option_map begun o)) gate
      go None s = s
      go (Some Apart) s = s
      go (Some (Sending p)) s = stands_begun i p gate s
      go (Some (Receiving p)) s = s

  pub receiving_stands : (link : ℕ) (change : RecvPhase → RecvPhase) → new ≡ changed_at link (on_receiving change) old
      → Stands i (sending_at new k) gate
  receiving_stands link change e =
      stands_at link (on_receiving change) gate e
      (λ same. subst (λ p. Stands i p gate) (sym (not_its change (slice_get old k))) h) (λ other. h)

  shaped_stands : ShapesSending old new → Stands i (sending_at new k) gate
  shaped_stands m =
      stands_at m.0 (on_sending (shaped_sending m.1 m.2)) gate m.5
      (λ same.
      let its =
      its_shape (shaped_sending m.1 m.2) (slice_get old k)
      (subst (λ j. is_unshaped_sending (slice_get old j) ≡ true) same m.3) in
      subst (λ p. Stands i p gate) (sym its.1)
      (stands_shaped i (sending_at old k) gate h m.1 m.2 (few_parts m.1 m.4) its.0))
      (λ other. h)

  pub hub_stands : (version : ImageVersion) → HubMoves version old new → Stands i (sending_at new k) gate
  hub_stands version (inl e) = same_stands e
  hub_stands version (inr (inl m)) = shaped_stands m
  hub_stands version (inr (inr (inl m))) = receiving_stands m.0 (shaped_receiving m.1 m.2) m.3
  hub_stands version (inr (inr (inr m))) = receiving_stands m.0 (cut_into m.1 m.2) m.4

  pub local_stands : (new ≡ old) ⊎ Begins old new → Stands i (sending_at new k) gate
  local_stands (inl e) = same_stands e
  local_stands (inr m) = begun_stands m.0 m.1

  -- a partition is made ready: its own, or another
  pub ready_here : (link part : ℕ) → link ≡ k → part ≡ i → MayReady old link part
      → new ≡ changed_at link (on_sending (readied part)) old
      → (gate ≢ Gate.Shut) × Stands i (sending_at new k) Gate.Shut
  ready_here link part here its may e =
      let mine = subst (λ j. MayReady old k j) its (subst (λ j. MayReady old j part) here may) in (
        h.unready mine.2,
        stands_at link (on_sending (readied part)) Gate.Shut e
            (λ same.
            subst (λ p. Stands i p Gate.Shut)
            (sym (its_sending (readied part) (slice_get old k) (let going = mine.1 in omega (arith, going))))
            (subst (λ j. Stands i (readied j (sending_at old k)) Gate.Shut) (sym its)
            (stands_made i (sending_at old k) gate h mine.0 mine.1 mine.2)))
            (λ other. absurd (other here)),
      )

  pub ready_there : (link part : ℕ) → (link ≡ k → part ≢ i) → MayReady old link part
      → new ≡ changed_at link (on_sending (readied part)) old
      → Stands i (sending_at new k) gate
  ready_there link part beside may e =
      stands_at link (on_sending (readied part)) gate e
      (λ same.
      let going = (subst (λ j. MayReady old j part) same may).1 in
      subst (λ p. Stands i p gate) (sym (its_sending (readied part) (slice_get old k) (omega (arith, going))))
      (stands_beside i (sending_at old k) gate h part (beside same)))
      (λ other. h)

  -- a partition is seen taken: its own, or another
  pub freed_here : (link part : ℕ) → link ≡ k → part ≡ i → MayAskFreed old link part
      → new ≡ changed_at link (on_sending one_freed) old
      → (gate ≢ Gate.Unused) × Stands i (sending_at new k) Gate.Free
  freed_here link part here its may e =
      let mine = subst (λ j. MayAskFreed old k j) its (subst (λ j. MayAskFreed old j part) here may) in (
        h.used mine.2,
        stands_at link (on_sending one_freed) Gate.Free e
            (λ same.
            subst (λ p. Stands i p Gate.Free)
            (sym (its_sending one_freed (slice_get old k) (let going = mine.0 in omega (arith, going))))
            (stands_freed i (sending_at old k) gate h mine.1 mine.2))
            (λ other. absurd (other here)),
      )

  pub freed_there : (link part : ℕ) → (link ≡ k → part ≢ i) → MayAskFreed old link part
      → new ≡ changed_at link (on_sending one_freed) old
      → Stands i (sending_at new k) gate
  freed_there link part beside may e =
      stands_at link (on_sending one_freed) gate e
      (λ same.
      let mine = subst (λ j. MayAskFreed old j part) same may in
      subst (λ p. Stands i p gate)
      (sym (its_sending one_freed (slice_get old k) (let going = mine.0 in omega (arith, going))))
      (stands_freed_beside i (sending_at old k) gate h (λ e. beside same (sym mine.1 ∙ e))))
      (λ other. h)
