use Rattle.cl_explore.specs.Diving.{Follows}
use Rattle.cl_explore.proofs.diving.go_round.Given as goal

-- turns led there
abbrev pub invariant-loop-rank : goal.invariant-loop-rank
invariant-loop-rank l = Follows l.course.order.now l.fn.live l.live
