use Rattle.std.proofs.Common.{subst}
use Rattle.cl_moves.specs.Ends.{TellsEnd}
use Rattle.cl_explore.proofs.Dives.{ended, nowhere, on}
use Rattle.cl_explore.proofs.diving.follow_one.Goals as goal

pub loop-round-init : goal.loop-round-init
loop-round-init c = nowhere c.args.course.now.order.now c.args.live.now

pub returns-then-branch : goal.returns-then-branch
returns-then-branch c = λ is.
    ended c.args.course.now.order.now c.args.live.now c.loop-round.live c.loop-round.invariant
    (subst (TellsEnd c.loop-round.live.cluster c.args.course.now.order.now) c.if-branch.true c.in_ok-is_end.ensures)

pub loop-round-preserved : goal.loop-round-preserved
loop-round-preserved c =
    on c.args.course.now.order.now c.args.live.now c.loop-round.live c.go_round.new.live c.loop-round.invariant
    (c.in_ok-go_round.ensures c.if-not-branch.false)
