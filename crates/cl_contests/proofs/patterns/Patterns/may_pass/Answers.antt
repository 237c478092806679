use Rattle.std.proofs.Common.{arith}
use Rattle.cl_contests.proofs.Passing.{passes_all}
use Rattle.cl_contests.proofs.patterns.Patterns.may_pass.Goals as goal

pub returns-clause-pass : goal.returns-clause-pass
returns-clause-pass c = λ its s p other allowed.
    passes_all c.args.self.now.kept.items c.args.rank c.args.request.now c.loop-other.other-index c.loop-other.invariant
    (omega (arith, c.loop-other-test.false, c.as_slice-other-items.ensures.len, c.args.self.now.kept.ok.0)) s p other allowed
