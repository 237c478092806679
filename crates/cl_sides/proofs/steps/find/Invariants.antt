-- None of the sides so far is of the link.
use Rattle.std.proofs.Common.{◌≡◌, ◌<◌, ◌==◌, ℕ, false}
use Rattle.std.specs.Prelude.{slice_get, IfSome}
use Rattle.cl_sides.proofs.steps.find.Given as goal

abbrev pub invariant-loop-i : goal.invariant-loop-i
invariant-loop-i g l = (k : ℕ) → k < l.i → IfSome (slice_get l.sides k) (λ x. (x.0 == l.link) ≡ false)
