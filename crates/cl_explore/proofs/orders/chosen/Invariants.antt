use Rattle.std.proofs.Common.{length}
use Rattle.cl_explore.proofs.Following.{NoneSoFar}
use Rattle.cl_explore.proofs.orders.chosen.Given as goal

-- none of those behind the ones that are left is the one
abbrev pub invariant-rest : goal.invariant-rest
invariant-rest l = NoneSoFar l.misses l.fn.turns.items l.turns.items

abbrev pub decreases-rest : goal.decreases-rest
decreases-rest l = length l.turns.items
