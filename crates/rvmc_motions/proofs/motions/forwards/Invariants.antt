use Rattle.rvmc_motions.proofs.Ways.{OnTheWay}
use Rattle.rvmc_motions.proofs.motions.forwards.Given as goal

-- no place so far ends the motion
abbrev pub invariant-loop-n : goal.invariant-loop-n
invariant-loop-n l = OnTheWay l.fn.debugger l.marks l.mover l._n l.debugger
