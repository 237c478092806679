use Rattle.cl_explore.proofs.Dives.{goes, took}
use Rattle.cl_explore.proofs.diving.go_once.Goals as goal

pub returns : goal.returns
returns c = λ is.
    goes c.args.course.now.order.now c.args.live.now c.take.new.self c.go_ahead.new.self c.in-Some.turn
    (rw c.in-Some.is at c.in_ok-turn.ensures)
    (took c.args.live.now c.in-Some.turn c.take.new.self c.in_ok-take.field-0 c.if-not-branch.false c.in_ok-take.ensures.takes)
    c.in_ok-go_ahead.ensures.ahead
