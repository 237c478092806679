-- The deeds at a box of its link's two ends: what its sender's deeds alone say, all of them say.
use Rattle.std.specs.Prelude.{ℕ, ◌<◌, List, [], ◌∷◌, ◌≡◌, ◌≢◌, ◌⊎◌}
use Rattle.std.specs.Prelude.{eqb}
use Rattle.std.specs.List.{filter_map, cons_option, AllByRecursion}
use Rattle.std.specs.declared.option.Option.TheVariants.{None}
use Rattle.std.proofs.Common.{refl, sym, ap, ◌∙◌, subst}
use Rattle.std.proofs.lemmas.Bool.{eq-eqb, ne_eqb}
use mathlib.Core.Logic.{inl, inr}
use Rattle.cl_deeds.specs.Deeds.{Act, Deed}
use Rattle.cl_machine.specs.Joined.{got_for, got_of, made_for}
use Rattle.cl_machine.specs.Joined.{made_more, made_of, takes_shown, shown_for}
use Rattle.cl_machine.proofs.Lists.{filter-keeps, filter-skips}
use Rattle.cl_machine.proofs.Views.{IsSending, IsTaking, Rises}
use Rattle.cl_box_laws.specs.Gates.{Gate, KeepsGate, MayAct, gate_after}
use Rattle.cl_stamp_laws.proofs.Boxing.{SendsAbove, SendsRise}
use Rattle.cl_stamp_laws.proofs.Ranks.{deeds_of}

-- a deed of the sender or of the receiver
abbrev pub OfTwo : ℕ → ℕ → Deed → Type 0
OfTwo sender receiver d = (IsSending d.act × (d.rank ≡ sender)) ⊎ (IsTaking d.act × (d.rank ≡ receiver))

no_made : (s : ℕ) (a : Act) → IsTaking a → made_for s a ≡ None
no_made s (Act.Take link part gate bytes) h = refl
no_made s _ h = absurd h

no_got : (s : ℕ) (a : Act) → IsSending a → got_for s a ≡ None
no_got s (Act.Ready link part bytes) h = refl
no_got s (Act.Freed link part gate) h = refl
no_got s _ h = absurd h

no_show : (n : ℕ) (a : Act) (ds : List Deed) → IsTaking a
    → cons_option (shown_for n a) (takes_shown (made_more n a) ds) ≡ takes_shown n ds
no_show n (Act.Take link part gate bytes) ds h = refl
no_show n _ ds h = absurd h

no_gate : (gate : Gate) (a : Act) (ds : List Deed) → IsTaking a → KeepsGate gate ds
    → MayAct gate a × KeepsGate (gate_after gate a) ds
no_gate gate (Act.Take link part stamp bytes) ds h k = (tt, k)
no_gate gate _ ds h k = absurd h

one_kind : (a : Act) → IsSending a → IsTaking a → ⊥
one_kind (Act.Take link part gate bytes) s t = s
one_kind _ s t = t

module _ (sender receiver : ℕ) (two : sender ≢ receiver) where
  its : (d : Deed) (ds : List Deed) (r : ℕ) → d.rank ≡ r
      → deeds_of r (d ∷ ds) ≡ d ∷ deeds_of r ds
  its d ds r e = filter-keeps (λ (x : Deed). eqb x.rank r) d ds (eq-eqb d.rank r e)

  skip : (d : Deed) (ds : List Deed) (r : ℕ) → (d.rank ≡ r → ⊥)
      → deeds_of r (d ∷ ds) ≡ deeds_of r ds
  skip d ds r e = filter-skips (λ (x : Deed). eqb x.rank r) d ds (ne_eqb d.rank r e)

  pub made_same : (K : List Deed) → AllByRecursion (OfTwo sender receiver) K
      → filter_map made_of (deeds_of sender K) ≡ filter_map made_of K
  made_same [] h = refl
  made_same (d ∷ K) h =
      elim h.0 [
        | inl s ↦ ap (filter_map made_of) (its d K sender s.1) ∙ ap (cons_option (made_of d)) (made_same K h.1)
        | inr t ↦ ap (filter_map made_of) (skip d K sender (λ e. two (sym e ∙ t.1))) ∙ made_same K h.1
            ∙ ap (λ o. cons_option o (filter_map made_of K)) (sym (no_made d.stamp d.act t.0))
      ]

  pub got_same : (K : List Deed) → AllByRecursion (OfTwo sender receiver) K
      → filter_map got_of (deeds_of receiver K) ≡ filter_map got_of K
  got_same [] h = refl
  got_same (d ∷ K) h =
      elim h.0 [
        | inr t ↦ ap (filter_map got_of) (its d K receiver t.1) ∙ ap (cons_option (got_of d)) (got_same K h.1)
        | inl s ↦ ap (filter_map got_of) (skip d K receiver (λ e. two (sym s.1 ∙ e))) ∙ got_same K h.1
            ∙ ap (λ o. cons_option o (filter_map got_of K)) (sym (no_got d.stamp d.act s.0))
      ]

  pub shown_same : (K : List Deed) (n : ℕ) → AllByRecursion (OfTwo sender receiver) K
      → takes_shown n (deeds_of sender K) ≡ takes_shown n K
  shown_same [] n h = refl
  shown_same (d ∷ K) n h =
      elim h.0 [
        | inl s ↦ ap (takes_shown n) (its d K sender s.1)
            ∙ ap (cons_option (shown_for n d.act)) (shown_same K (made_more n d.act) h.1)
        | inr t ↦ ap (takes_shown n) (skip d K sender (λ e. two (sym e ∙ t.1))) ∙ shown_same K n h.1
            ∙ sym (no_show n d.act K t.0)
      ]

  pub gate_from : (K : List Deed) (gate : Gate) → AllByRecursion (OfTwo sender receiver) K
      → KeepsGate gate (deeds_of sender K) → KeepsGate gate K
  gate_from [] gate h k = tt
  gate_from (d ∷ K) gate h k =
      elim h.0 [
        | inl s ↦
            (let g = subst (KeepsGate gate) (its d K sender s.1) k in
            (g.0, gate_from K (gate_after gate d.act) h.1 g.1))
        | inr t ↦ no_gate gate d.act K t.0
            (gate_from K gate h.1 (subst (KeepsGate gate) (skip d K sender (λ e. two (sym e ∙ t.1))) k))
      ]

  pub above_from : (s : ℕ) (K : List Deed) → AllByRecursion (OfTwo sender receiver) K
      → AllByRecursion (λ (x : Deed). s < x.stamp) (deeds_of sender K) → SendsAbove s K
  above_from s [] h k = tt
  above_from s (d ∷ K) h k =
      elim h.0 [
        | inl e ↦
            (let g = subst (AllByRecursion (λ (x : Deed). s < x.stamp)) (its d K sender e.1) k in
            ((λ u. g.0), above_from s K h.1 g.1))
        | inr t ↦ (
          (λ u. absurd (one_kind d.act u t.0)),
          above_from s K h.1
              (subst (AllByRecursion (λ (x : Deed). s < x.stamp)) (skip d K sender (λ e. two (sym e ∙ t.1))) k),
        )
      ]

  pub rise_from : (K : List Deed) → AllByRecursion (OfTwo sender receiver) K
      → Rises (deeds_of sender K) → SendsRise K
  rise_from [] h k = tt
  rise_from (d ∷ K) h k =
      elim h.0 [
        | inl e ↦
            (let g = subst Rises (its d K sender e.1) k in ((λ u. above_from d.stamp K h.1 g.0), rise_from K h.1 g.1))
        | inr t ↦ (
          (λ u. absurd (one_kind d.act u t.0)),
          rise_from K h.1 (subst Rises (skip d K sender (λ e. two (sym e ∙ t.1))) k),
        )
      ]
