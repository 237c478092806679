use Rattle.std.proofs.Common.{◌≡◌, length}
use Rattle.std.specs.Prelude.{◌↔◌}
use Rattle.rv_memory.proofs.kept.are_same_pages.Given as goal

abbrev pub invariant-loop-one : goal.invariant-loop-one
invariant-loop-one l = (l.kept ≡ l.pages) ↔ (l.left ≡ l.right)

abbrev pub decreases-loop-one : goal.decreases-loop-one
decreases-loop-one l = length l.left
