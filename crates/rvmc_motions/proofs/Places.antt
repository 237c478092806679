-- A motion leads to one place, for one cause, and goes one way.
use Rattle.std.specs.Prelude.{ℕ, ◌≡◌, ◌<◌, ◌≤◌, ◌⊎◌, Option, Some, None}
use Rattle.std.proofs.Common.{sym, ap, ◌∙◌, arith, inl, inr}
use Rattle.std.proofs.lemmas.Bool.{cases_order}
use Rattle.std.proofs.lemmas.Option.{same_Some}
use Rattle.rvmc_motions.specs.declared.marks.Halt.{Halt}
use Rattle.rvmc_motions.specs.declared.marks.Mover.{Mover}
use Rattle.rvmc_motions.specs.Laws.{OnePlaceLaw, StaysLaw}
use Rattle.rvmc_motions.specs.Motions.{IsFirstBehind, IsLastBefore}

both : (found : Option Halt) (halt : Halt) → found ≡ Some halt → found ≡ None → ⊥
both found halt some none = absurd (cc)

same_cause : (stops : ℕ → Option Halt) (one other : ℕ) (first second : Halt) → one ≡ other → stops one ≡ Some first
    → stops other ≡ Some second → first ≡ second
same_cause stops one other first second same a b = same_Some first second (sym a ∙ ap stops same ∙ b)

behind : (stops : ℕ → Option Halt) (from length one other : ℕ) (mover : Mover) (first second : Halt)
    → IsFirstBehind stops from length mover one first → IsFirstBehind stops from length mover other second
    → (one ≡ other) × (first ≡ second)
behind stops from length one other mover first second (inl a) (inl b) =
    let left : ¬ (one < other) = λ below. both (stops one) first a.2 (b.3 one a.0 below) in
    let right : ¬ (other < one) = λ below. both (stops other) second b.2 (a.3 other b.0 below) in
    let same : one ≡ other = omega (arith, left, right) in
    (same, same_cause stops one other first second same a.2 b.2)
behind stops from length one other mover first second (inl a) (inr b) =
    absurd (both (stops one) first a.2 (b.2 one a.0 a.1))
behind stops from length one other mover first second (inr a) (inl b) =
    absurd (both (stops other) second b.2 (a.2 other b.0 b.1))
behind stops from length one other mover first second (inr a) (inr b) = (a.0 ∙ sym b.0, a.1 ∙ sym b.1)

before : (stops : ℕ → Option Halt) (from one other : ℕ) (mover : Mover) (first second : Halt)
    → IsLastBefore stops from mover one first → IsLastBefore stops from mover other second
    → (one ≡ other) × (first ≡ second)
before stops from one other mover first second (inl a) (inl b) =
    let left : ¬ (one < other) = λ below. both (stops other) second b.1 (a.2 other below b.0) in
    let right : ¬ (other < one) = λ below. both (stops one) first a.1 (b.2 one below a.0) in
    let same : one ≡ other = omega (arith, left, right) in
    (same, same_cause stops one other first second same a.1 b.1)
before stops from one other mover first second (inl a) (inr b) = absurd (both (stops one) first a.1 (b.2 one a.0))
before stops from one other mover first second (inr a) (inl b) = absurd (both (stops other) second b.1 (a.2 other b.0))
before stops from one other mover first second (inr a) (inr b) = (a.0 ∙ sym b.0, a.1 ∙ sym b.1)

pub one_place_law : OnePlaceLaw
one_place_law = record { behind = behind; before = before }

goes_on : (stops : ℕ → Option Halt) (from length to : ℕ) (mover : Mover) (halt : Halt) → from ≤ length
    → IsFirstBehind stops from length mover to halt → (from < to) ⊎ ((from ≡ length) × (to ≡ length))
goes_on stops from length to mover halt within (inl a) = inl a.0
goes_on stops from length to mover halt within (inr a) = decided (cases_order from to)
  where
    decided : (from ≡ to) ⊎ ((from < to) ⊎ (to < from)) → (from < to) ⊎ ((from ≡ length) × (to ≡ length))
    decided (inl same) = inr (same ∙ a.0, a.0)
    decided (inr (inl below)) = inl below
    decided (inr (inr above)) = (let there = a.0 in absurd (omega (arith, above, there, within)))

goes_back : (stops : ℕ → Option Halt) (from to : ℕ) (mover : Mover) (halt : Halt)
    → IsLastBefore stops from mover to halt → (to < from) ⊎ ((from ≡ 0) × (to ≡ 0))
goes_back stops from to mover halt (inl a) = inl a.0
goes_back stops from to mover halt (inr a) = decided (cases_order from to)
  where
    decided : (from ≡ to) ⊎ ((from < to) ⊎ (to < from)) → (to < from) ⊎ ((from ≡ 0) × (to ≡ 0))
    decided (inl same) = inr (same ∙ a.0, a.0)
    decided (inr (inl below)) = (let there = a.0 in absurd (omega (arith, below, there)))
    decided (inr (inr above)) = inl above

pub stays_law : StaysLaw
stays_law = record { behind = goes_on; before = goes_back }
