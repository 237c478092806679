use Rattle.std.proofs.Common.{◌≡◌, length}
use Rattle.std.specs.Prelude.{◌↔◌}
use Rattle.part_phase.proofs.same.are_same.Given as goal

abbrev pub invariant-loop-p : goal.invariant-loop-p
invariant-loop-p l = (l.all ≡ l.others) ↔ (l.left ≡ l.right)

abbrev pub decreases-loop-p : goal.decreases-loop-p
decreases-loop-p l = length l.left
