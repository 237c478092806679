use Rattle.std.proofs.Common.{arith}
use Rattle.cl_contests.proofs.Waiting.{waits_all, waits_more}
use Rattle.cl_contests.proofs.patterns.Patterns.only_wait.Goals as goal

pub returns : goal.returns
returns c = λ its.
    waits_all c.args.self.now.may_wait c.args.self.now.kept.items c.loop-asked.asked-index c.loop-asked.invariant
    (omega (arith, c.loop-asked-test.false, c.as_slice-asked-items.ensures.len, c.args.self.now.kept.ok.0))

pub loop-asked-preserved : goal.loop-asked-preserved
loop-asked-preserved c =
    waits_more c.args.self.now.kept.items c.loop-asked.asked-index c.loop-asked.invariant _ c.as_slice-asked-items.result.now
    c.as_slice-asked-items.ensures.value
    (omega (arith, c.loop-asked-test.true, c.as_slice-asked-items.ensures.len, c.args.self.now.kept.ok.0))
    (c.is_wait.ensures c.if-not-is_wait.false)
