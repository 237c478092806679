use Rattle.rvmc_explore.proofs.EachStart.{StartsSoFar}
use Rattle.rvmc_explore.proofs.splitting.starts_at.Given as goal

abbrev pub invariant-loop-place : goal.invariant-loop-place
invariant-loop-place l = StartsSoFar l.found.nodes.items l.common l.numbers l.place l.starts.items
