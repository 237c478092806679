-- A thing made before the gate was seen free, with a stamp below that of the Take before it.
use Rattle.std.specs.Prelude.{ℕ, [], ◌∷◌, ◌≡◌, Bool, true, false, cond, eqb, length}
use Rattle.std.proofs.Common.{refl, ap, arith}
use Rattle.std.proofs.lemmas.Bool.{eqb-true}
use mathlib.Core.Logic.{inl}
use Rattle.cl_deeds.specs.Deeds.{Act, Deed}
use Rattle.cl_machine.specs.Boxes.{Box}
use Rattle.cl_machine.specs.Order.{of_rank}
use Rattle.cl_stamp_laws.specs.Laws.{GateNeededLaw}

abbrev first : Deed
first = record { rank = 0; hart = 0; stamp = 1; act = Act.Ready 0 0 [] }

abbrev taken : Deed
taken = record { rank = 1; hart = 0; stamp = 5; act = Act.Take 0 0 1 [] }

abbrev second : Deed
second = record { rank = 0; hart = 0; stamp = 2; act = Act.Ready 0 0 [] }

same : (r : ℕ)
    → of_rank (λ (d : Deed). d.rank) r (first ∷ second ∷ taken ∷ [])
    ≡ of_rank (λ (d : Deed). d.rank) r (first ∷ taken ∷ second ∷ [])
same r = go (eqb 0 r) (eqb 1 r) (λ p q. let a = eqb-true 0 r p in let b = eqb-true 1 r q in omega (arith, a, b))
  where
    go : (a b : Bool) → (a ≡ true → b ≡ true → ⊥)
        → cond a (first ∷ cond a (second ∷ cond b (taken ∷ []) []) (cond b (taken ∷ []) []))
        (cond a (second ∷ cond b (taken ∷ []) []) (cond b (taken ∷ []) []))
        ≡ cond a (first ∷ cond b (taken ∷ cond a (second ∷ []) []) (cond a (second ∷ []) []))
        (cond b (taken ∷ cond a (second ∷ []) []) (cond a (second ∷ []) []))
    go true true h = absurd (h refl refl)
    go true false h = refl
    go false true h = refl
    go false false h = refl

pub gate_needed : GateNeededLaw
gate_needed = (
  first ∷ taken ∷ second ∷ [],
  first ∷ second ∷ taken ∷ [],
  (
    record { made = record { stamp = 1; bytes = [] } ∷ record { stamp = 2; bytes = [] } ∷ []; taken = 1; stamp = 2 },
    (
      record { made = record { stamp = 1; bytes = [] } ∷ []; taken = 0; stamp = 1 },
      (refl, refl),
      (
        record { made = record { stamp = 1; bytes = [] } ∷ []; taken = 1; stamp = 5 },
        (refl, refl, refl),
        (
          record {
            made = record { stamp = 1; bytes = [] } ∷ record { stamp = 2; bytes = [] } ∷ [];
            taken = 1;
            stamp = 2;
          },
          (refl, refl),
          refl,
        ),
      ),
    ),
  ),
  same,
  ((inl (omega arith), (inl (omega arith), tt)), ((inl (omega arith), tt), (tt, tt))),
  λ new h. full h.0 h.1.1 h.2.1.0,
)
  where
    full : (mid : Box) → mid ≡ record { made = record { stamp = 1; bytes = [] } ∷ []; taken = 0; stamp = 1 }
        → length mid.made ≡ mid.taken → ⊥
    full mid e k = let a = ap (λ (b : Box). length b.made) e in let t =
        ap (λ (b : Box). b.taken) e in omega (arith, a, t, k)
