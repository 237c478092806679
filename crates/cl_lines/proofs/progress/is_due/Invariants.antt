-- What is left is the number without so many of its zeros.
use Rattle.std.proofs.Common.{◌≡◌, ℕ, ◌*◌, ◌^◌}
use Rattle.cl_lines.proofs.progress.is_due.Given as goal

abbrev pub invariant-loop-rest : goal.invariant-loop-rest
invariant-loop-rest l = (zeros : ℕ) × (l.states ≡ l.rest * 10 ^ zeros)

abbrev pub decreases-loop-rest : goal.decreases-loop-rest
decreases-loop-rest l = l.rest
