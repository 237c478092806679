-- A rank's phases keep the sides of links that it was loaded with.
use Rattle.std.specs.Prelude.{ℕ, zero, suc, ◌<◌, ◌≤◌, ◌≡◌, ◌≢◌, List, [], ◌∷◌, slice_get, Bool, true, false, ⊤}
use Rattle.std.specs.Prelude.{nat_le}
use Rattle.std.specs.Prelude.{◌==◌, Option, None, Some, if◌then◌else◌}
use Rattle.std.specs.Option.{option_map}
use Rattle.std.proofs.Common.{refl, sym, ap, ◌∙◌, subst, arith}
use Rattle.std.proofs.lemmas.Bool.{and_parts, eqb-true, leb-true}
use Rattle.std.proofs.lemmas.Bool.Decides.{eqb_tells}
use Rattle.std.proofs.lemmas.Option.{same_Some, slice_get-map}
use mathlib.Core.Logic.{inl, inr}
use Rattle.rv_image_types.specs.declared.images.ImageVersion.{ImageVersion}
use Rattle.rv_image_types.specs.declared.images.Link.{Link}
use Rattle.part_phase.specs.declared.phases.Phase.{Phase}
use Rattle.part_phase.specs.declared.phases.Phase.TheVariants.{Apart, Sending, Receiving}
use Rattle.part_phase.specs.declared.receiving.RecvPhase.{RecvPhase}
use Rattle.part_phase.specs.declared.sending.SendPhase.{SendPhase}
use Rattle.part_phase.specs.Limits.{are_parts}
use Rattle.part_phase.specs.Phases.{begun, changed_at, first_phase, first_phases, on_receiving, on_sending}
use Rattle.part_phase.specs.Phases.{receiving_at}
use Rattle.part_phase.specs.Phases.{receiving_in, sending_at, sending_in}
use Rattle.part_phase.specs.Receiving.{begun_receiving, is_cut, unshaped_receiving}
use Rattle.part_phase.specs.Sending.{all_freed, begun_sending, none_marked, unshaped_sending}

pub changed_same : (link : ℕ) (f : Phase → Phase) (ps : List Phase)
    → slice_get (changed_at link f ps) link ≡ option_map f (slice_get ps link)
changed_same link f [] = refl
changed_same zero f (p ∷ ps) = refl
changed_same (suc link) f (p ∷ ps) = changed_same link f ps

pub changed_other : (link k : ℕ) (f : Phase → Phase) (ps : List Phase) → link ≢ k
    → slice_get (changed_at link f ps) k ≡ slice_get ps k
changed_other link k f [] other = refl
changed_other zero zero f (p ∷ ps) other = absurd (other refl)
changed_other zero (suc k) f (p ∷ ps) other = refl
changed_other (suc link) zero f (p ∷ ps) other = refl
changed_other (suc link) (suc k) f (p ∷ ps) other = changed_other link k f ps (λ e. other (ap suc e))

-- a rank's side of a link, and the limits of its boxes
abbrev pub IsSide : ℕ → Link → Phase → Type 0
IsSide rank l Apart = ⊤
IsSide rank l (Sending p) = (l.from ≡ rank) × (p.parts ≤ 16)
IsSide rank l (Receiving p) = (l.to ≡ rank) × (p.boxes ≤ 16)

abbrev pub AreSides : List Link → ℕ → List Phase → Type 0
AreSides links rank phases =
    (k : ℕ) (p : Phase) → slice_get phases k ≡ Some p → (l : Link) × (slice_get links k ≡ Some l) × IsSide rank l p

-- ---- as they are loaded

first_side : (rank : ℕ) (l : Link) → IsSide rank l (first_phase rank l)
first_side rank l = go (l.from == rank) (l.to == rank) refl refl
  where
    go : (a b : Bool) → (l.from == rank) ≡ a → (l.to == rank) ≡ b
        → IsSide rank l (if a then Sending unshaped_sending else if b then Receiving unshaped_receiving else Apart)
    go true b e f = (eqb-true l.from rank e, omega arith)
    go false true e f = (eqb-true l.to rank f, omega arith)
    go false false e f = tt

pub first_sides : (links : List Link) (rank : ℕ) → AreSides links rank (first_phases links rank)
first_sides links rank k p e = go (slice_get links k) refl (sym (slice_get-map (first_phase rank) links k) ∙ e)
  where
    go : (o : Option Link) → slice_get links k ≡ o → option_map (first_phase rank) o ≡ Some p
        → (l : Link) × (slice_get links k ≡ Some l) × IsSide rank l p
    go None f g = absurd (cc)
    go (Some l) f g = (l, f, subst (IsSide rank l) (same_Some _ _ g) (first_side rank l))

-- no side has a shape
pub none_sends : (links : List Link) (rank link : ℕ) → sending_at (first_phases links rank) link ≡ unshaped_sending
none_sends links rank link =
    subst (λ o. sending_in o ≡ unshaped_sending) (sym (slice_get-map (first_phase rank) links link))
    (go (slice_get links link))
  where
    either : (a b : Bool)
        → sending_in (Some (if a then Sending unshaped_sending else if b then Receiving unshaped_receiving else Apart))
        ≡ unshaped_sending
    either true b = refl
    either false true = refl
    either false false = refl

    go : (o : Option Link) → sending_in (option_map (first_phase rank) o) ≡ unshaped_sending
    go None = refl
    go (Some l) = either (l.from == rank) (l.to == rank)

-- ---- and as they change

module _ (links : List Link) (rank : ℕ) (ps : List Phase) (h : AreSides links rank ps) where
  pub sides_changed : (link : ℕ) (f : Phase → Phase) → ((l : Link) (p : Phase) → IsSide rank l p → IsSide rank l (f p))
      → AreSides links rank (changed_at link f ps)
  sides_changed link f keeps k p e =
      elim (eqb_tells link k) [
        | inl same ↦ subst
            (λ j. slice_get (changed_at j f ps) k ≡ Some p
            → (l : Link) × (slice_get links k ≡ Some l) × IsSide rank l p) (sym same.1)
            (λ e. go (slice_get ps k) refl (sym (changed_same k f ps) ∙ e)) e
        | inr other ↦ h k p (sym (changed_other link k f ps other.1) ∙ e)
      ]
    where
      go : (o : Option Phase) → slice_get ps k ≡ o → option_map f o ≡ Some p
          → (l : Link) × (slice_get links k ≡ Some l) × IsSide rank l p
      go None a b = absurd (cc)
      go (Some q) a b = let at_it =
          h k q a in (at_it.0, at_it.1, subst (IsSide rank at_it.0) (same_Some _ _ b) (keeps at_it.0 q at_it.2))

-- a change of one side that keeps the limits
pub on_sending_side : (rank : ℕ) (change : SendPhase → SendPhase)
    → ((p : SendPhase) → p.parts ≤ 16 → (change p).parts ≤ 16)
    → (l : Link) (p : Phase) → IsSide rank l p → IsSide rank l (on_sending change p)
on_sending_side rank change few l Apart h = tt
on_sending_side rank change few l (Sending p) h = (h.0, few p h.1)
on_sending_side rank change few l (Receiving p) h = h

pub on_receiving_side : (rank : ℕ) (change : RecvPhase → RecvPhase)
    → ((p : RecvPhase) → p.boxes ≤ 16 → (change p).boxes ≤ 16)
    → (l : Link) (p : Phase) → IsSide rank l p → IsSide rank l (on_receiving change p)
on_receiving_side rank change few l Apart h = tt
on_receiving_side rank change few l (Sending p) h = h
on_receiving_side rank change few l (Receiving p) h = (h.0, few p h.1)

begun_parts : (p : SendPhase) → (begun_sending p).parts ≡ p.parts
begun_parts p = go (all_freed p)
  where
    go : (b : Bool) → (if b then record p { ready = none_marked; freed = 0 } else p).parts ≡ p.parts
    go true = refl
    go false = refl

begun_boxes : (p : RecvPhase) → (begun_receiving p).boxes ≡ p.boxes
begun_boxes p = go p.active
  where
    go : (b : Bool) → (if b then p else record p { active = true; taken = none_marked }).boxes ≡ p.boxes
    go true = refl
    go false = refl

pub begun_side : (rank : ℕ) (l : Link) (p : Phase) → IsSide rank l p → IsSide rank l (begun p)
begun_side rank l Apart h = tt
begun_side rank l (Sending p) h = (h.0, subst (λ n. n ≤ 16) (sym (begun_parts p)) h.1)
begun_side rank l (Receiving p) h = (h.0, subst (λ n. n ≤ 16) (sym (begun_boxes p)) h.1)

pub few_parts : (parts : ℕ) → are_parts parts ≡ true → parts ≤ 16
few_parts parts e = leb-true parts 16 (and_parts (nat_le 1 parts) (nat_le parts 16) e).1

pub few_boxes : (version : ImageVersion) (p : RecvPhase) (boxes bytes : ℕ) → is_cut version p boxes bytes ≡ true
    → boxes ≤ 16
few_boxes version p boxes bytes e = few_parts boxes (and_parts _ _ (and_parts _ _ (and_parts _ _ e).0).0).0

-- ---- where a side is asked for

-- a side that has partitions is the sender's, at a link that the rank sends on
pub sends_on : (links : List Link) (rank : ℕ) (ps : List Phase) (link n : ℕ) → AreSides links rank ps
    → n < (sending_at ps link).parts
    → (l : Link) × (slice_get links link ≡ Some l) × (n < 16) × (l.from ≡ rank)
sends_on links rank ps link n h low = go (slice_get ps link) refl low
  where
    go : (o : Option Phase) → slice_get ps link ≡ o → n < (sending_in o).parts
        → (l : Link) × (slice_get links link ≡ Some l) × (n < 16) × (l.from ≡ rank)
    go None e low = absurd (omega (arith, low))
    go (Some Apart) e low = absurd (omega (arith, low))
    go (Some (Receiving p)) e low = absurd (omega (arith, low))
    go (Some (Sending p)) e low =
        let side = h link (Sending p) e in
        (side.0, side.1, (let few = side.2.1 in omega (arith, low, few)), side.2.0)

-- one that has boxes is the receiver's
pub receives_on : (links : List Link) (rank : ℕ) (ps : List Phase) (link n : ℕ) → AreSides links rank ps
    → n < (receiving_at ps link).boxes
    → (l : Link) × (slice_get links link ≡ Some l) × (n < 16) × (l.to ≡ rank)
receives_on links rank ps link n h low = go (slice_get ps link) refl low
  where
    go : (o : Option Phase) → slice_get ps link ≡ o → n < (receiving_in o).boxes
        → (l : Link) × (slice_get links link ≡ Some l) × (n < 16) × (l.to ≡ rank)
    go None e low = absurd (omega (arith, low))
    go (Some Apart) e low = absurd (omega (arith, low))
    go (Some (Sending p)) e low = absurd (omega (arith, low))
    go (Some (Receiving p)) e low =
        let side = h link (Receiving p) e in
        (side.0, side.1, (let few = side.2.1 in omega (arith, low, few)), side.2.0)
