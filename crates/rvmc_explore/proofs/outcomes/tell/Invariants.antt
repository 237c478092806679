use Rattle.cl_explore.specs.Ends.{findings}
use Rattle.rvmc_explore.proofs.Listed.{StuckSoFar}
use Rattle.rvmc_explore.proofs.outcomes.tell.Given as goal

abbrev pub invariant-loop-place : goal.invariant-loop-place
invariant-loop-place l = StuckSoFar l.order l.image (findings l.found) l.fn.heard.items l.place l.told.items
