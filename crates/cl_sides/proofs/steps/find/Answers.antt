use Rattle.cl_sides.proofs.Lists.{found, not_found}
use Rattle.cl_sides.proofs.steps.find.Goals as goal

pub returns-then-sides-i : goal.returns-then-sides-i
returns-then-sides-i g c =
    found c.args.link c.args.sides.now c.loop-i.i c.index-sides-i.result c.loop-i-test.true c.index-sides-i.is
    c.if-sides-i.true c.loop-i.invariant

pub returns : goal.returns
returns g c = not_found c.args.link c.args.sides.now c.loop-i.i c.loop-i-test.false c.loop-i.invariant
