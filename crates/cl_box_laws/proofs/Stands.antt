-- How the sender's side of a link stands to the gate of one of its boxes.
use Rattle.std.specs.Prelude.{ℕ, ◌+◌, ◌<◌, ◌≤◌, ◌≡◌, ◌≢◌, Bool, true, false, length, get_or, set}
use Rattle.std.specs.Prelude.{◌⊎◌, if◌then◌else◌}
use Rattle.std.proofs.Common.{refl, sym, ◌∙◌, arith}
use Rattle.std.proofs.lemmas.Bool.{cases_lt, leb-true, eqb-true}
use Rattle.std.proofs.lemmas.List.{get_or-replicate, get_or-set_other, get_or-set_same, get_or_past, length-set}
use mathlib.Core.Logic.{inl, inr}
use Rattle.part_phase.specs.declared.sending.SendPhase.{SendPhase}
use Rattle.part_phase.specs.Sending.{all_freed, begun_sending, is_last, is_part_ready, none_marked, one_freed, readied}
use Rattle.part_phase.specs.Sending.{shaped_sending, unshaped_sending}
use Rattle.cl_box_laws.specs.Gates.{Gate}

-- the gate of box i is shut only where its partition is ready and not freed, and unused only where it isn't ready
pub record Stands (i : ℕ) (p : SendPhase) (gate : Gate) : Type 0 where
  pub unready : is_part_ready p i ≡ false → gate ≢ Gate.Shut
  pub freed : i < p.freed → gate ≢ Gate.Shut
  pub used : is_part_ready p i ≡ true → gate ≢ Gate.Unused
  -- what is ready is one of the side's own, and what is freed in a phase was ready
  pub within : is_part_ready p i ≡ true → i < p.parts
  pub before : i < p.freed → p.freed < p.parts → is_part_ready p i ≡ true
  pub marks : length p.ready ≡ 16
  pub most : p.parts ≤ 16

abbrev pub either : (b : Bool) → ((b ≡ true) ⊎ (b ≡ false))
either true = inl refl
either false = inr refl

pub none_shut : Gate.Unused ≢ Gate.Shut
none_shut e = absurd (cc)

pub shut_used : Gate.Shut ≢ Gate.Unused
shut_used e = absurd (cc)

pub free_open : Gate.Free ≢ Gate.Shut
free_open e = absurd (cc)

pub free_used : Gate.Free ≢ Gate.Unused
free_used e = absurd (cc)

not_both : (b : Bool) → b ≡ true → b ≡ false → ⊥
not_both b t f = absurd (cc)

unmarked : (i : ℕ) → get_or none_marked i false ≡ false
unmarked i =
    elim (cases_lt i 16) [
      | inl low ↦ get_or-replicate 16 i false false low
      | inr up ↦ get_or_past none_marked i false up
    ]

pub stands_first : (i : ℕ) → Stands i unshaped_sending Gate.Unused
stands_first i = record {
  unready = λ e. none_shut;
  freed = λ low. none_shut;
  used = λ e. absurd (not_both (get_or none_marked i false) e (unmarked i));
  within = λ e. absurd (not_both (get_or none_marked i false) e (unmarked i));
  before = λ low up. absurd (omega (arith, low));
  marks = refl;
  most = omega arith;
}

module _ (i : ℕ) (p : SendPhase) (gate : Gate) (h : Stands i p gate) where
  pub open_where_unready : is_part_ready p i ≡ false → gate ≢ Gate.Shut
  open_where_unready e = h.unready e

  -- its own partition is made ready
  pub stands_made : i < p.parts → p.freed < p.parts → is_part_ready p i ≡ false → Stands i (readied i p) Gate.Shut
  stands_made low going not_ready =
      let is : get_or (set p.ready i true) i false ≡ true =
      get_or-set_same p.ready i true false (omega (arith, low, h.marks, h.most)) in
      record {
        unready = λ e. absurd (not_both (get_or (set p.ready i true) i false) is e);
        freed = λ lower. absurd (not_both (is_part_ready p i) (h.before lower going) not_ready);
        used = λ e. shut_used;
        within = λ e. low;
        before = λ lower up. is;
        marks = length-set p.ready i true ∙ h.marks;
        most = h.most;
      }

  -- another is
  pub stands_beside : (j : ℕ) → j ≢ i → Stands i (readied j p) gate
  stands_beside j other =
      let is : get_or (set p.ready j true) i false ≡ is_part_ready p i =
      get_or-set_other p.ready j i true false (λ e. other (sym e)) in
      record {
        unready = λ e. h.unready (sym is ∙ e);
        freed = h.freed;
        used = λ e. h.used (sym is ∙ e);
        within = λ e. h.within (sym is ∙ e);
        before = λ lower up. is ∙ h.before lower up;
        marks = length-set p.ready j true ∙ h.marks;
        most = h.most;
      }

  -- its own partition is found taken, the lowest that isn't freed
  pub stands_freed : p.freed ≡ i → is_part_ready p i ≡ true → Stands i (one_freed p) Gate.Free
  stands_freed at_it ready = go (is_last p) refl
    where
      go : (b : Bool) → is_last p ≡ b
          → Stands i (record p { ready = if b then none_marked else p.ready; freed = p.freed + 1 }) Gate.Free
      go true last = record {
        unready = λ e. free_open;
        freed = λ low. free_open;
        used = λ e. free_used;
        within = λ e. absurd (not_both (get_or none_marked i false) e (unmarked i));
        before = λ low up. (let same = eqb-true (p.freed + 1) p.parts last in absurd (omega (arith, up, same)));
        marks = refl;
        most = h.most;
      }
      go false last = record {
        unready = λ e. free_open;
        freed = λ low. free_open;
        used = λ e. free_used;
        within = h.within;
        before = λ low up. ready;
        marks = h.marks;
        most = h.most;
      }

  -- another is
  pub stands_freed_beside : p.freed ≢ i → Stands i (one_freed p) gate
  stands_freed_beside other = go (is_last p) refl
    where
      lower : i < p.freed + 1 → i < p.freed
      lower low = elim (cases_lt i p.freed) [ inl h ↦ h | inr h ↦ absurd (other (omega (arith, low, h))) ]

      still_open : p.freed + 1 ≡ p.parts → gate ≢ Gate.Shut
      still_open last =
          elim (either (is_part_ready p i)) [
            | inl ready ↦ h.freed (lower (let up = h.within ready in omega (arith, up, last)))
            | inr unready ↦ h.unready unready
          ]

      go : (b : Bool) → is_last p ≡ b
          → Stands i (record p { ready = if b then none_marked else p.ready; freed = p.freed + 1 }) gate
      go true last = record {
        unready = λ e. still_open (eqb-true (p.freed + 1) p.parts last);
        freed = λ low. h.freed (lower low);
        used = λ e. absurd (not_both (get_or none_marked i false) e (unmarked i));
        within = λ e. absurd (not_both (get_or none_marked i false) e (unmarked i));
        before = λ low up. (let same = eqb-true (p.freed + 1) p.parts last in absurd (omega (arith, up, same)));
        marks = refl;
        most = h.most;
      }
      go false last = record {
        unready = h.unready;
        freed = λ low. h.freed (lower low);
        used = h.used;
        within = h.within;
        before = λ low up. h.before (lower low) (omega (arith, up));
        marks = h.marks;
        most = h.most;
      }

  -- a phase begins
  pub stands_begun : Stands i (begun_sending p) gate
  stands_begun = go (all_freed p) refl
    where
      opened : p.parts ≤ p.freed → gate ≢ Gate.Shut
      opened all =
          elim (either (is_part_ready p i)) [
            | inl ready ↦ h.freed (let up = h.within ready in omega (arith, up, all))
            | inr unready ↦ h.unready unready
          ]

      go : (b : Bool) → all_freed p ≡ b → Stands i (if b then record p { ready = none_marked; freed = 0 } else p) gate
      go true all = record {
        unready = λ e. opened (leb-true p.parts p.freed all);
        freed = λ low. absurd (omega (arith, low));
        used = λ e. absurd (not_both (get_or none_marked i false) e (unmarked i));
        within = λ e. absurd (not_both (get_or none_marked i false) e (unmarked i));
        before = λ low up. absurd (omega (arith, low));
        marks = refl;
        most = h.most;
      }
      go false all = h

  -- a transfer gets the side
  pub stands_shaped : (parts size : ℕ) → parts ≤ 16 → p.parts ≡ 0 → Stands i (shaped_sending parts size p) gate
  stands_shaped parts size few none = record {
    unready = h.unready;
    freed = λ low. opened;
    used = h.used;
    within = λ e. absurd (let up = h.within e in omega (arith, up, none));
    before = λ low up. absurd (omega (arith, up));
    marks = h.marks;
    most = few;
  }
    where
      opened : gate ≢ Gate.Shut
      opened =
          elim (either (is_part_ready p i)) [
            | inl ready ↦ absurd (let up = h.within ready in omega (arith, up, none))
            | inr unready ↦ h.unready unready
          ]
