use Rattle.cl_explore.proofs.Dives.{nowhere, on}
use Rattle.cl_explore.proofs.diving.go_round.Goals as goal

pub loop-rank-init : goal.loop-rank-init
loop-rank-init c = nowhere c.args.course.now.order.now c.args.live.now

pub loop-rank-preserved : goal.loop-rank-preserved
loop-rank-preserved c =
    on c.args.course.now.order.now c.args.live.now c.loop-rank.live c.go_once.new.live c.loop-rank.invariant
    (c.in_ok-go_once.ensures c.if-not-branch.false)

pub returns : goal.returns
returns c = λ is. c.loop-rank.invariant
