use Rattle.cl_explore.specs.Diving.{Follows}
use Rattle.cl_explore.proofs.diving.follow_one.Given as goal

-- turns led there
abbrev pub invariant-loop-round : goal.invariant-loop-round
invariant-loop-round l = Follows l.course.order.now l.fn.live l.live
