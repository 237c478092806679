use Rattle.rvmc_motions.proofs.Ways.{OnTheWayBack}
use Rattle.rvmc_motions.proofs.motions.backwards.Given as goal

-- no place from here on ends the motion
abbrev pub invariant-loop-to : goal.invariant-loop-to
invariant-loop-to l = OnTheWayBack l.fn.debugger l.marks l.mover l.to l.debugger

abbrev pub decreases-loop-to : goal.decreases-loop-to
decreases-loop-to l = l.to
