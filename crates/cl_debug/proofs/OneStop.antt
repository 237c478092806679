-- A run stops at one place, and the worked spacings.
use Rattle.std.specs.Prelude.{ℕ, zero, suc, ◌≡◌, ◌+◌, ◌*◌, ◌/◌, ◌^◌, ◌<◌, List, [], ◌∷◌, Contains}
use Rattle.std.proofs.Common.{refl, sym, ap, ◌∙◌, arith, inl, inr}
use Rattle.std.proofs.lemmas.Option.{same_Some}
use Rattle.rv_image_types.specs.declared.images.ImageParts.{ImageParts}
use Rattle.cl_machine.specs.declared.steps.Step.{Step}
use Rattle.cl_debug.specs.Places.{IsStop}
use Rattle.cl_debug.specs.Laws.{OneStopLaw, OwnBreakLaw}
use Rattle.cl_debug.specs.Spacing.{SpacingRows}
use Rattle.cl_debug.specs.declared.breaks.Break.{Break}
use Rattle.cl_debug.proofs.Stopping.{stop_inside}

-- no place to stop at is below another
not_below : (image : ImageParts) (steps : List Step) (breaks : List Break) (from one other : ℕ)
    → IsStop image steps breaks from one → IsStop image steps breaks from other → ¬ (one < other)
not_below image steps breaks from one other (inl stop) (inl later) below = later.2 one stop.0 below stop.1
not_below image steps breaks from one other (inl stop) (inr end) below = end.1 one stop.0 stop.1
not_below image steps breaks from one other (inr end) later below =
    let inside = stop_inside image steps breaks from other later in
    let at = end.0 in
    omega (arith, inside, at, below)

pub one_stop : OneStopLaw
one_stop image steps breaks from one other a b =
    let first = not_below image steps breaks from one other a b in
    let second = not_below image steps breaks from other one b a in
    omega (arith, first, second)

-- the only break of a list is that which is set
only_break : (added set : Break) → Contains (added ∷ []) set → added ≡ set
only_break added set (zero, low, is) = is
only_break added set (suc k, low, is) = absurd (omega (arith, low))

pub own_break : OwnBreakLaw
own_break image steps added n step place next =
    let same = same_Some place.step step (sym place.next ∙ next) in
    let is = only_break added _ place.is_set in (
      ap (λ (s : Step). s.rank) (sym same) ∙ ap (λ (b : Break). b.rank) (sym is),
      ap (λ (s : Step). s.hart) (sym same) ∙ ap (λ (b : Break). b.hart) (sym is),
    )

pub spacing_rows : SpacingRows
spacing_rows = record {
  none = record { power = 0; is = refl; few = omega arith; least = λ other below. absurd (omega (arith, below)) };
  most = record { power = 0; is = refl; few = omega arith; least = λ other below. absurd (omega (arith, below)) };
  more = record {
    power = 1;
    is = refl;
    few = omega arith;
    least = λ other below. only_zero other below;
  };
}
  where
    only_zero : (other : ℕ) → other < 1 → 64 < 65536 / (1024 * 2 ^ other) + 1
    only_zero zero below = omega arith
    only_zero (suc n) below = absurd (omega (arith, below))
