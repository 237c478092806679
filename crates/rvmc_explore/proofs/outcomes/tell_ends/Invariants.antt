use Rattle.cl_explore.specs.Ends.{findings}
use Rattle.rvmc_explore.proofs.Listed.{EndsSoFar}
use Rattle.rvmc_explore.proofs.outcomes.tell_ends.Given as goal

abbrev pub invariant-loop-place : goal.invariant-loop-place
invariant-loop-place l = EndsSoFar l.order l.image (findings l.found) l.fn.heard.items l.place l.told.items
