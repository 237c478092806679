use Rattle.std.proofs.Common.{◌<◌, All, subst, sym}
use Rattle.cl_run.proofs.Going.{no_rounds, rounds_on}
use Rattle.cl_run.proofs.driver.Driver.is_quiet.Goals as goal

pub round-moved-requires-clause-joined : goal.round-moved-requires-clause-joined
round-moved-requires-clause-joined c = c.loop-round.invariant.joined

pub round-moved-requires-clause-there : goal.round-moved-requires-clause-there
round-moved-requires-clause-there c =
    subst (λ n. All (λ r. r < n) c.args.order.now) (sym c.loop-round.invariant.count) c.requires.there

pub loop-round-preserved : goal.loop-round-preserved
loop-round-preserved c =
    let goes = c.round-moved.ensures in
    rounds_on c.args.order.now c.args.self.now c.loop-round.self c.round-moved.new.self c.loop-round.invariant goes.joined
    goes.count goes.seated goes.goes goes.no_more

pub loop-round-init : goal.loop-round-init
loop-round-init c = no_rounds c.args.order.now c.args.self.now c.requires.joined

pub returns-then-not-moved : goal.returns-then-not-moved
returns-then-not-moved c =
    let goes = c.round-moved.ensures in
    rounds_on c.args.order.now c.args.self.now c.loop-round.self c.round-moved.new.self c.loop-round.invariant goes.joined
    goes.count goes.seated goes.goes goes.no_more

pub returns-then-quiet-saturating_mul : goal.returns-then-quiet-saturating_mul
returns-then-quiet-saturating_mul c =
    let goes = c.round-moved.ensures in
    rounds_on c.args.order.now c.args.self.now c.loop-round.self c.round-moved.new.self c.loop-round.invariant goes.joined
    goes.count goes.seated goes.goes goes.no_more
