use Rattle.std.proofs.Common.{ℕ, ◌≡◌, ◌<◌, Some, length, slice_get, true}
use Rattle.rvmc_explore.specs.Marks.{IsMarkedIfThere}
use Rattle.rvmc_explore.proofs.marks.marked_at.Given as goal

abbrev pub invariant-loop-place : goal.invariant-loop-place
invariant-loop-place l =
    (length l.marks.items ≡ l.count)
    × ((i : ℕ) → slice_get l.marks.items i ≡ Some true → (k : ℕ) × (slice_get l.nodes k ≡ Some i))
    × ((k i : ℕ) → k < l.place → slice_get l.nodes k ≡ Some i → IsMarkedIfThere l.marks.items i)
