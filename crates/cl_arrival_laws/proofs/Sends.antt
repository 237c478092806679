-- What each act makes of the sender's side of one link.
use Rattle.std.specs.Prelude.{ℕ, ◌<◌, ◌≤◌, ◌≡◌, ◌≢◌, ◌⊎◌, List, slice_get, true, Option, None, Some}
use Rattle.std.specs.Option.{option_map}
use Rattle.std.proofs.Common.{refl, sym, ap, subst, arith}
use Rattle.std.proofs.lemmas.Bool.{eqb-true}
use Rattle.std.proofs.lemmas.Bool.Decides.{eqb_tells}
use mathlib.Core.Logic.{inl, inr}
use Rattle.rv_image_types.specs.declared.images.ImageVersion.{ImageVersion}
use Rattle.part_phase.specs.declared.phases.Phase.{Phase}
use Rattle.part_phase.specs.declared.phases.Phase.TheVariants.{Apart, Sending, Receiving}
use Rattle.part_phase.specs.declared.receiving.RecvPhase.{RecvPhase}
use Rattle.part_phase.specs.declared.sending.SendPhase.{SendPhase}
use Rattle.part_phase.specs.Phases.{begun, changed_at, is_unshaped_sending, on_receiving, on_sending}
use Rattle.part_phase.specs.Phases.{sending_at, sending_in}
use Rattle.part_phase.specs.Receiving.{cut_into, one_taken, shaped_receiving}
use Rattle.part_phase.specs.Sending.{begun_sending, is_part_ready, one_freed, readied, shaped_sending, unshaped_sending}
use Rattle.cl_deeds.specs.Deeds.{Act}
use Rattle.cl_box_laws.proofs.Moves.{ActMoves, Begins, HubMoves, MayAskFreed, MayReady}
use Rattle.cl_box_laws.proofs.Sides.{changed_other, changed_same, few_parts}
use Rattle.std.specs.Prelude.{false}

-- a transfer gets the side, which none had
abbrev pub IsShaped : SendPhase → SendPhase → Type 0
IsShaped p q = (parts : ℕ) × (size : ℕ) × (p.parts ≡ 0) × (parts ≤ 16) × (q ≡ shaped_sending parts size p)

-- what no Ready or Freed does to a side
abbrev pub SideMoves : SendPhase → SendPhase → Type 0
SideMoves p q = (q ≡ p) ⊎ ((q ≡ begun_sending p) ⊎ IsShaped p q)

-- one of its own that isn't ready is made so while a phase is going on
abbrev pub IsReadied : ℕ → SendPhase → SendPhase → Type 0
IsReadied part p q =
    (part < p.parts) × (p.freed < p.parts) × (is_part_ready p part ≡ false) × (q ≡ readied part p)

-- the lowest that isn't freed, which is ready
abbrev pub IsFreed : ℕ → SendPhase → SendPhase → Type 0
IsFreed part p q = (part < p.parts) × (p.freed ≡ part) × (is_part_ready p part ≡ true) × (q ≡ one_freed p)

-- the side of link k, by what an act did
abbrev pub ActDoes : ℕ → Act → SendPhase → SendPhase → Type 0
ActDoes k (Act.Ready link part bytes) p q = ((link ≡ k) × IsReadied part p q) ⊎ ((link ≢ k) × (q ≡ p))
ActDoes k (Act.Freed link part gate) p q = ((link ≡ k) × IsFreed part p q) ⊎ ((link ≢ k) × (q ≡ p))
ActDoes k _ p q = SideMoves p q

at_link : (k link : ℕ) (f : Phase → Phase) (old : List Phase) (P : SendPhase → Type 0)
    → (link ≡ k → P (sending_in (option_map f (slice_get old k))))
    → (link ≢ k → P (sending_at old k))
    → P (sending_at (changed_at link f old) k)
at_link k link f old P here there =
    elim (eqb_tells link k) [
      | inl same ↦ subst (λ j. P (sending_in (slice_get (changed_at j f old) k))) (sym same.1)
          (subst (λ o. P (sending_in o)) (sym (changed_same k f old)) (here same.1))
      | inr other ↦ subst (λ o. P (sending_in o)) (sym (changed_other link k f old other.1)) (there other.1)
    ]

-- a change of the sender's side
its_side : (change : SendPhase → SendPhase) (o : Option Phase)
    → (sending_in (option_map (on_sending change) o) ≡ change (sending_in o))
    ⊎ ((sending_in o ≡ unshaped_sending) × (sending_in (option_map (on_sending change) o) ≡ sending_in o))
its_side change None = inr (refl, refl)
its_side change (Some Apart) = inr (refl, refl)
its_side change (Some (Receiving p)) = inr (refl, refl)
its_side change (Some (Sending p)) = inl refl

not_its_side : (change : RecvPhase → RecvPhase) (o : Option Phase)
    → sending_in (option_map (on_receiving change) o) ≡ sending_in o
not_its_side change None = refl
not_its_side change (Some Apart) = refl
not_its_side change (Some (Sending p)) = refl
not_its_side change (Some (Receiving p)) = refl

begun_side : (o : Option Phase)
    → (sending_in (option_map begun o) ≡ sending_in o) ⊎ (sending_in (option_map begun o) ≡ begun_sending
    (sending_in o))
begun_side None = inl refl
begun_side (Some Apart) = inl refl
begun_side (Some (Receiving p)) = inl refl
begun_side (Some (Sending p)) = inr refl

shapeless : (o : Option Phase) → is_unshaped_sending o ≡ true → (sending_in o).parts ≡ 0
shapeless None e = absurd (cc)
shapeless (Some Apart) e = absurd (cc)
shapeless (Some (Receiving p)) e = absurd (cc)
shapeless (Some (Sending p)) e = eqb-true p.parts 0 e

module _ (k : ℕ) (old new : List Phase) where
  abbrev p : SendPhase
  p = sending_at old k

  same : new ≡ old → SideMoves p (sending_at new k)
  same e = inl (ap (λ ps. sending_at ps k) e)

  receiving : (link : ℕ) (change : RecvPhase → RecvPhase) → new ≡ changed_at link (on_receiving change) old
      → SideMoves p (sending_at new k)
  receiving link change e =
      subst (λ ps. SideMoves p (sending_at ps k)) (sym e)
      (at_link k link (on_receiving change) old (SideMoves p) (λ here. inl (not_its_side change (slice_get old k)))
      (λ there. inl refl))

  begins : (new ≡ old) ⊎ Begins old new → SideMoves p (sending_at new k)
  begins (inl e) = same e
  begins (inr m) =
      subst (λ ps. SideMoves p (sending_at ps k)) (sym m.1)
      (at_link k m.0 begun old (SideMoves p)
      (λ here. elim (begun_side (slice_get old k)) [ inl h ↦ inl h | inr h ↦ inr (inl h) ]) (λ there. inl refl))

  by_hub : (version : ImageVersion) → HubMoves version old new → SideMoves p (sending_at new k)
  by_hub version (inl e) = same e
  by_hub version (inr (inl m)) =
      subst (λ ps. SideMoves p (sending_at ps k)) (sym m.5)
      (at_link k m.0 (on_sending (shaped_sending m.1 m.2)) old (SideMoves p)
      (λ here.
      let none = shapeless (slice_get old k) (subst (λ j. is_unshaped_sending (slice_get old j) ≡ true) here m.3) in
      elim (its_side (shaped_sending m.1 m.2) (slice_get old k)) [
        | inl h ↦ inr (inr (m.1, m.2, none, few_parts m.1 m.4, h))
        | inr h ↦ inl h.1
      ])
      (λ there. inl refl))
  by_hub version (inr (inr (inl m))) = receiving m.0 (shaped_receiving m.1 m.2) m.3
  by_hub version (inr (inr (inr m))) = receiving m.0 (cut_into m.1 m.2) m.4

  by_ready : (link part : ℕ) → MayReady old link part → new ≡ changed_at link (on_sending (readied part)) old
      → ((link ≡ k) × IsReadied part p (sending_at new k)) ⊎ ((link ≢ k) × (sending_at new k ≡ p))
  by_ready link part may e =
      subst (λ ps. ((link ≡ k) × IsReadied part p (sending_at ps k)) ⊎ ((link ≢ k) × (sending_at ps k ≡ p))) (sym e)
      (at_link k link (on_sending (readied part)) old
      (λ q. ((link ≡ k) × IsReadied part p q) ⊎ ((link ≢ k) × (q ≡ p)))
      (λ here.
      let mine = subst (λ j. MayReady old j part) here may in
      elim (its_side (readied part) (slice_get old k)) [
        | inl h ↦ inl (here, (mine.0, mine.1, mine.2, h))
        | inr h ↦ absurd
            (let low = subst (λ (q : SendPhase). part < q.parts) h.0 mine.0 in omega (arith, low))
      ])
      (λ there. inr (there, refl)))

  by_freed : (link part : ℕ) → MayAskFreed old link part → new ≡ changed_at link (on_sending one_freed) old
      → ((link ≡ k) × IsFreed part p (sending_at new k)) ⊎ ((link ≢ k) × (sending_at new k ≡ p))
  by_freed link part may e =
      subst (λ ps. ((link ≡ k) × IsFreed part p (sending_at ps k)) ⊎ ((link ≢ k) × (sending_at ps k ≡ p))) (sym e)
      (at_link k link (on_sending one_freed) old
      (λ q. ((link ≡ k) × IsFreed part p q) ⊎ ((link ≢ k) × (q ≡ p)))
      (λ here.
      let mine = subst (λ j. MayAskFreed old j part) here may in
      elim (its_side one_freed (slice_get old k)) [
        | inl h ↦ inl (here, (mine.0, mine.1, mine.2, h))
        | inr h ↦ absurd
            (let low = subst (λ (q : SendPhase). part < q.parts) h.0 mine.0 in omega (arith, low))
      ])
      (λ there. inr (there, refl)))

  -- what an act does to the sender's side of a link
  pub does : (version : ImageVersion) (a : Act) → ActMoves version a old new → ActDoes k a p (sending_at new k)
  does version Act.Plain m = same m
  does version Act.Local m = begins m
  does version (Act.Hub clock request reply) m = by_hub version m
  does version (Act.Ready link part bytes) m = by_ready link part m.0 m.1
  does version (Act.Take link box gate bytes) m = receiving link (one_taken box) m.1
  does version (Act.Miss link part) m = same m
  does version (Act.Freed link part gate) m = by_freed link part m.0 m.1
  does version Act.Held m = same m
  does version Act.Idle m = same m
