use Rattle.std.proofs.Common.{ℕ, ◌<◌, ◌%◌, ◌≡◌, ◌⊎◌, Some, length, slice_get}
use Rattle.cl_explore.specs.Kept.{IsDoneAt}
use Rattle.cl_explore.proofs.search.are_same_places.Given as goal

-- the ranks before this one are at the same places, or done
abbrev pub invariant-loop-rank : goal.invariant-loop-rank
invariant-loop-rank l =
    (r : ℕ) → r < l.rank → (n m : ℕ) → slice_get l.standing.had.items r ≡ Some n → slice_get l.other r ≡ Some m
    → (n % length l.order ≡ m % length l.order) ⊎ IsDoneAt l.order l.standing r
