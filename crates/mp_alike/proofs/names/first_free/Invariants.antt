use Rattle.std.proofs.Common.{ℕ, ◌<◌}
use Rattle.mp_alike.specs.InnerNames.{IsFree}
use Rattle.mp_alike.proofs.names.first_free.Given as goal

-- none so far
abbrev pub invariant-loop-place : goal.invariant-loop-place
invariant-loop-place l = (k : ℕ) → k < l.place → ¬ IsFree l.rank l.lines l.back k
