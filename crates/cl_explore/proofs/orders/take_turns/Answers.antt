use Rattle.std.proofs.Common.{subst}
use Rattle.std.proofs.lemmas.Option.{slice_get-get_or}
use Rattle.cl_explore.specs.Orders.{TakesTurn}
use Rattle.cl_explore.proofs.Following.{led_more, led_no_more, led_nowhere}
use Rattle.cl_explore.proofs.orders.take_turns.Goals as goal

pub loop-place-init : goal.loop-place-init
loop-place-init c = λ image start.
    led_nowhere image c.args.course.now.order.now c.args.turns.now c.args.standing.now start

pub returns-then-not-branch-clause-fault : goal.returns-then-not-branch-clause-fault
returns-then-not-branch-clause-fault c = λ image start.
    let order = c.args.course.now.order.now in
    let turns = c.args.turns.now in
    let place = c.loop-place.place in
    led_no_more image order turns place _ c.loop-place.standing c.take_turn.new.standing
    (slice_get-get_or turns place _ c.loop-place-test.true) (c.loop-place.invariant image start)
    (subst (TakesTurn order c.loop-place.standing _ c.take_turn.new.standing) c.if-not-branch.true c.in_ok-take_turn.ensures)

pub loop-place-preserved : goal.loop-place-preserved
loop-place-preserved c = λ image start.
    let order = c.args.course.now.order.now in
    let turns = c.args.turns.now in
    let place = c.loop-place.place in
    led_more image order turns place _ c.loop-place.standing c.take_turn.new.standing
    (slice_get-get_or turns place _ c.loop-place-test.true) (c.loop-place.invariant image start)
    (subst (TakesTurn order c.loop-place.standing _ c.take_turn.new.standing) c.if-not-branch.false c.in_ok-take_turn.ensures)
