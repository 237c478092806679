use Rattle.std.proofs.Common.{ℕ, ◌≡◌, Some, length, slice_get}
use Rattle.rvmc_explore.specs.Marks.{IsMarkedIfThere, unmarked}
use Rattle.rvmc_explore.specs.Searched.{AreSound}
use Rattle.rvmc_explore.proofs.marks.leading_to.Given as goal

abbrev pub invariant-rest : goal.invariant-rest
invariant-rest l =
    (length l.marks.items ≡ l.count)
    × AreSound l.leads l.targets l.marks.items
    × ((k i : ℕ) → slice_get l.targets k ≡ Some i → IsMarkedIfThere l.marks.items i)

abbrev pub decreases-rest : goal.decreases-rest
decreases-rest l = unmarked l.marks.items
