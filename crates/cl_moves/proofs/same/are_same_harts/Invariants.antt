use Rattle.std.proofs.Common.{◌≡◌, length}
use Rattle.cl_moves.proofs.same.are_same_harts.Given as goal

-- where those that are left are the same, all are
abbrev pub invariant-loop-hart : goal.invariant-loop-hart
invariant-loop-hart l = (l.left ≡ l.right) → (l.harts ≡ l.others)

abbrev pub decreases-loop-hart : goal.decreases-loop-hart
decreases-loop-hart l = length l.left
