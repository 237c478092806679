use Rattle.std.proofs.Common.{◌≡◌, length}
use Rattle.cl_moves.proofs.same.are_same_slots.Given as goal

-- where those that are left are the same, all are
abbrev pub invariant-loop-slot : goal.invariant-loop-slot
invariant-loop-slot l = (l.left ≡ l.right) → (l.slots ≡ l.others)

abbrev pub decreases-loop-slot : goal.decreases-loop-slot
decreases-loop-slot l = length l.left
