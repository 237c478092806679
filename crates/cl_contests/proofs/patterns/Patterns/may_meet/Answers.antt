use Rattle.std.proofs.Common.{arith}
use Rattle.cl_contests.proofs.Passing.{meets_all}
use Rattle.cl_contests.proofs.patterns.Patterns.may_meet.Goals as goal

pub returns : goal.returns
returns c = λ its at s p other allowed.
    meets_all c.args.self.now.kept.items c.args.rank c.args.ask.now c.loop-other.other-index c.loop-other.invariant at
    (omega (arith, c.loop-other-test.false, c.as_slice-other-items.ensures.len, c.args.self.now.kept.ok.0)) s p other allowed
