use Rattle.std.proofs.Common.{arith}
use Rattle.cl_contests.proofs.Passing.{begins_all}
use Rattle.cl_contests.proofs.patterns.Patterns.may_initialise.Goals as goal

pub returns-clause-pass : goal.returns-clause-pass
returns-clause-pass c = λ its s p other allowed.
    begins_all c.args.self.now.kept.items c.args.rank c.args.request.now c.loop-other.other-index c.loop-other.invariant
    (c.is_initialisation.ensures c.if-not-is_initialisation.false)
    (omega (arith, c.loop-other-test.false, c.as_slice-other-items.ensures.len, c.args.self.now.kept.ok.0)) s p other allowed
