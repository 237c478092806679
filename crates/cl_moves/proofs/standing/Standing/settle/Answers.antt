use Rattle.cl_moves.proofs.Going.{ahead_more, ahead_stays}
use Rattle.cl_moves.proofs.standing.Standing.settle.Goals as goal

pub loop-rank-init : goal.loop-rank-init
loop-rank-init c = ahead_stays c.args.order.now c.args.self.now

pub loop-rank-preserved : goal.loop-rank-preserved
loop-rank-preserved c =
    ahead_more c.args.order.now c.args.self.now c.loop-rank.self c.go_ahead.new.self c.loop-rank.invariant
    c.in_ok-how.ensures.ahead
