use Rattle.cl_run.proofs.Going.{from_start, more_rounds, one_round}
use Rattle.cl_run.proofs.driver.Driver.run_until_quiet.Goals as goal

pub returns-then-not-round-clause-goes : goal.returns-then-not-round-clause-goes
returns-then-not-round-clause-goes c = λ image plans seated start.
    let goes = c.round.ensures in
    let first = c.args.self.now in
    let mid = c.loop-turns.self in
    let last = c.round.new.self in
    from_start c.args.order.now first last
    (more_rounds c.args.order.now first mid last c.loop-turns.invariant
    (one_round c.args.order.now mid last goes.joined goes.count goes.seated goes.goes goes.no_more))
    image plans seated start

pub returns-then-is_quiet-clause-goes : goal.returns-then-is_quiet-clause-goes
returns-then-is_quiet-clause-goes c = λ image plans seated start.
    let goes = c.round.ensures in
    let order = c.args.order.now in
    let first = c.args.self.now in
    let mid = c.loop-turns.self in
    let one = c.round.new.self in
    let many = c.rounds.new.self in
    let last = c.is_quiet.new.self in
    from_start order first last
    (more_rounds order first many last
    (more_rounds order first one many
    (more_rounds order first mid one c.loop-turns.invariant
    (one_round order mid one goes.joined goes.count goes.seated goes.goes goes.no_more))
    c.rounds.ensures) c.is_quiet.ensures)
    image plans seated start

pub loop-turns-preserved : goal.loop-turns-preserved
loop-turns-preserved c =
    let goes = c.round.ensures in
    let order = c.args.order.now in
    let first = c.args.self.now in
    let mid = c.loop-turns.self in
    let one = c.round.new.self in
    let many = c.rounds.new.self in
    let last = c.is_quiet.new.self in
    more_rounds order first many last
    (more_rounds order first one many
    (more_rounds order first mid one c.loop-turns.invariant
    (one_round order mid one goes.joined goes.count goes.seated goes.goes goes.no_more))
    c.rounds.ensures) c.is_quiet.ensures
