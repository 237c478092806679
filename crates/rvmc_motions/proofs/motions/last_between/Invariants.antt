use Rattle.rvmc_motions.proofs.Ways.{InBetween}
use Rattle.rvmc_motions.proofs.motions.last_between.Given as goal

-- what was found last so far
abbrev pub invariant-loop-n : goal.invariant-loop-n
invariant-loop-n l = InBetween l.fn.debugger l.marks l.mover l.from l.n l.found l.debugger
