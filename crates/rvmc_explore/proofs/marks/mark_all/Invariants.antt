use Rattle.rvmc_explore.proofs.Marked.{MarkedSoFar}
use Rattle.rvmc_explore.proofs.marks.mark_all.Given as goal

abbrev pub invariant-loop-place : goal.invariant-loop-place
invariant-loop-place l = MarkedSoFar l.leads l.place l.more l.fn.marks l.marks
