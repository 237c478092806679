use Rattle.cl_explore.proofs.Following.{none_as, took_if}
use Rattle.cl_explore.proofs.orders.take_turn.Goals as goal

pub returns-in_default-chosen : goal.returns-in_default-chosen
returns-in_default-chosen c =
    none_as c.args.course.now.order.now c.args.standing.now c.args.turn c.in-Some.hart c.in_ok-turns.turns.items
    c.in-Some.ensures c.args.standing.now c.in_ok-turns.ensures.all c.in_default-chosen.ensures

pub returns : goal.returns
returns c =
    took_if c.args.course.now.order.now c.args.standing.now c.args.turn c.in-Some.hart c.in_ok-turns.turns.items
    c.take.new.self c.in-Some-chosen.step c.take.result c.in-Some.ensures c.in_ok-turns.ensures.all
    c.in_ok-turns.ensures.own c.in_ok-turns.ensures.apart c.in-Some-chosen.ensures c.take.ensures.takes
    c.take.ensures.noted
