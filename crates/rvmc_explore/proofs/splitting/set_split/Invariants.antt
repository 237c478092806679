use Rattle.rvmc_explore.specs.Splitting.{with_split}
use Rattle.rvmc_explore.proofs.EachStart.{ChangedSoFar}
use Rattle.rvmc_explore.proofs.splitting.set_split.Given as goal

abbrev pub invariant-loop-start : goal.invariant-loop-start
invariant-loop-start l = ChangedSoFar (with_split l.split) l.fn.starts l.start-index l.starts
