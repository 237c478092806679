-- The places that a motion passes.
use Rattle.std.specs.Prelude.{ℕ, ◌<◌, length, Option}
use Rattle.std.proofs.Common.{arith, inl, inr}
use Rattle.rvmc_motions.specs.declared.marks.Halt.{Halt}
use Rattle.rvmc_motions.specs.declared.marks.Mover.{Mover}
use Rattle.rvmc_motions.specs.Laws.{PassesNoneLaw}
use Rattle.rvmc_motions.specs.Motions.{IsFirstBehind, IsLastBefore, NoneBetween}
use Rattle.rvmc_motions.specs.Turns.{backward_stop, forward_stop}

module _ (stops : ℕ → Option Halt) (from to : ℕ) (mover : Mover) (halt : Halt) where
  passed : (length : ℕ) → IsFirstBehind stops from length mover to halt → NoneBetween stops from to
  passed length (inl a) = a.3
  passed length (inr a) = λ n over under. (let end = a.0 in a.2 n over (omega (arith, under, end)))

  passed_back : IsLastBefore stops from mover to halt → NoneBetween stops to from
  passed_back (inl a) = a.2
  passed_back (inr a) = λ n over under. a.2 n under

  left : (length : ℕ) → from < length → IsFirstBehind stops from length mover to halt → from < to
  left length inside (inl a) = a.0
  left length inside (inr a) = (let end = a.0 in omega (arith, inside, end))

  returned : 0 < from → IsLastBefore stops from mover to halt → to < from
  returned inside (inl a) = a.0
  returned inside (inr a) = (let start = a.0 in omega (arith, inside, start))

pub passes_none_law : PassesNoneLaw
passes_none_law = record {
  on = λ old new marks mover halt history of goes.
      passed (forward_stop mover marks old.steps history) old.place new.place mover halt (length old.steps)
      (goes.there history of);
  back = λ old new marks mover halt history of goes.
      passed_back (backward_stop mover marks old.steps history) old.place new.place mover halt (goes.there history of);
  leaves = λ old new marks mover halt history of inside goes.
      left (forward_stop mover marks old.steps history) old.place new.place mover halt (length old.steps) inside
      (goes.there history of);
  returns = λ old new marks mover halt history of inside goes.
      returned (backward_stop mover marks old.steps history) old.place new.place mover halt inside
      (goes.there history of);
}
