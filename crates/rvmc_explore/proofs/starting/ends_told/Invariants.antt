use Rattle.rvmc_explore.proofs.Listed.{ToldSoFar}
use Rattle.rvmc_explore.proofs.starting.ends_told.Given as goal

abbrev pub invariant-loop-place : goal.invariant-loop-place
invariant-loop-place l = ToldSoFar l.told l.place l.ends.items
