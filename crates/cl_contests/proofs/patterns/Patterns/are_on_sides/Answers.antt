use Rattle.std.proofs.Common.{arith}
use Rattle.cl_contests.proofs.Passing.{sides_all}
use Rattle.cl_contests.proofs.patterns.Patterns.are_on_sides.Goals as goal

pub returns : goal.returns
returns c = λ its.
    sides_all c.args.links.now c.args.self.now.kept.items c.loop-asked.asked-index c.loop-asked.invariant
    (omega (arith, c.loop-asked-test.false, c.as_slice-asked-items.ensures.len, c.args.self.now.kept.ok.0))
