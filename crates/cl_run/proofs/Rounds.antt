-- One turn more, or one slot passed over.
use Rattle.std.specs.Prelude.{ℕ, ◌≡◌, ◌≢◌, ◌<◌, ◌≤◌, ◌+◌, List, [], ◌∷◌, ◌++◌}
use Rattle.std.proofs.Common.{sym, subst, arith}
use Rattle.std.proofs.lemmas.Bool.Decides.{eqb_tells}
use mathlib.Core.Logic.{inl, inr}
use Rattle.std.proofs.lemmas.List.Elements.{All-append, All-cons, All-nil}
use Rattle.cl_deeds.specs.Orders.{in_slot}
use Rattle.cl_run.specs.Rounds.{GoesRound}
use Rattle.cl_run.specs.UnderWay.{Round}

module _ (order : List ℕ) where
  pub goes_round : (Done : ℕ → Type 0) (from : ℕ) (takers : List ℕ) (to : ℕ) → Round order Done from takers to
      → GoesRound order from takers
  goes_round Done from [] to h = tt
  goes_round Done from (taker ∷ takers) to h =
      (h.0, h.1, h.2, (λ passed low high. (h.3 passed low high).0), goes_round Done (h.0 + 1) takers to h.4)

  -- more are done
  pub more_done : (Done Later : ℕ → Type 0) → ((r : ℕ) → Done r → Later r) → (from : ℕ) (takers : List ℕ) (to : ℕ)
      → Round order Done from takers to → Round order Later from takers to
  more_done Done Later f from [] to h = (h.0, λ passed low high. f (in_slot order passed) (h.1 passed low high))
  more_done Done Later f from (taker ∷ takers) to h = (
    h.0,
    h.1,
    h.2,
    (λ passed low high. let k = h.3 passed low high in (k.0, f (in_slot order passed) k.1)),
    more_done Done Later f (h.0 + 1) takers to h.4,
  )

  -- a slot whose rank is done is passed over
  pub passed_over : (Done : ℕ → Type 0) (from : ℕ) (takers : List ℕ) (to : ℕ) → Done (in_slot order to)
      → Round order Done from takers to → Round order Done from takers (to + 1)
  passed_over Done from [] to d h = (omega (arith, h.0), at)
    where
      at : (passed : ℕ) → from ≤ passed → passed < to + 1 → Done (in_slot order passed)
      at passed low high = elim (eqb_tells to passed) [
        | inl same ↦ subst (λ n. Done (in_slot order n)) same.1 d
        | inr other ↦ h.1 passed low (omega (arith, other.1))
      ]
  passed_over Done from (taker ∷ takers) to d h = (h.0, h.1, h.2, h.3, passed_over Done (h.0 + 1) takers to d h.4)

  -- one who isn't done takes a slot
  pub one_turn_more : (Done : ℕ → Type 0) (from : ℕ) (takers : List ℕ) (to taker : ℕ) → in_slot order to ≡ taker
      → (Done taker → ⊥)
      → Round order Done from takers to → Round order Done from (takers ++ taker ∷ []) (to + 1)
  one_turn_more Done from [] to taker here running h = (
    to,
    h.0,
    here,
    (λ passed low high.
        let done = h.1 passed low high in
        (All-cons (λ later. later ≢ in_slot order passed) taker [] (λ e. running (subst Done (sym e) done)) (All-nil (λ later. later ≢ in_slot order passed)), done)),
    (omega arith, λ passed low high. absurd (omega (arith, low, high))),
  )
  one_turn_more Done from (x ∷ takers) to taker here running h = (
    h.0,
    h.1,
    h.2,
    (λ passed low high.
        let k = h.3 passed low high in (
          All-append (λ later. later ≢ in_slot order passed) (x ∷ takers) (taker ∷ []) k.0
              (All-cons (λ later. later ≢ in_slot order passed) taker [] (λ e. running (subst Done (sym e) k.1)) (All-nil (λ later. later ≢ in_slot order passed))),
          k.1,
        )),
    one_turn_more Done (h.0 + 1) takers to taker here running h.4,
  )
