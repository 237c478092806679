use Rattle.std.proofs.Common.{ℕ, ◌<◌, ◌≡◌, slice_get}
use Rattle.cl_explore.proofs.kept.are_same_beside.Given as goal

-- the counts before this one are the same
abbrev pub invariant-loop-other : goal.invariant-loop-other
invariant-loop-other l =
    (r : ℕ) → r < l.other → (r ≡ l.rank → ⊥) → slice_get l.had r ≡ slice_get l.before r
