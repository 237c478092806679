use Rattle.std.proofs.Common.{inr}
use Rattle.std.proofs.lemmas.Result.{IfErr-weaker, IfOk-weaker}
use Rattle.cl_ending.proofs.Judged.{no_plans}
use Rattle.cl_ending.proofs.one.run_one_until_stuck.Goals as goal

pub returns-clause-run : goal.returns-clause-run
returns-clause-run c = IfOk-weaker c.judge.result _ _ (λ end is. is.run) c.judge.ensures.judged

pub returns-clause-whole : goal.returns-clause-whole
returns-clause-whole c = IfOk-weaker c.judge.result _ _ (λ end is. is.whole) c.judge.ensures.judged

pub returns-clause-free : goal.returns-clause-free
returns-clause-free c = IfOk-weaker c.judge.result _ _ (λ end is. is.free) c.judge.ensures.judged

pub returns-clause-stuck : goal.returns-clause-stuck
returns-clause-stuck c = IfOk-weaker c.judge.result _ _ (λ end is. is.stuck) c.judge.ensures.judged

pub returns-clause-merged : goal.returns-clause-merged
returns-clause-merged c = IfOk-weaker c.judge.result _ _ (λ end is. is.merged) c.judge.ensures.judged

pub returns-clause-arrived : goal.returns-clause-arrived
returns-clause-arrived c = IfOk-weaker c.judge.result _ _ (λ end is. is.arrived) c.judge.ensures.judged

pub returns-clause-plans : goal.returns-clause-plans
returns-clause-plans c = (
  λ e. absurd (no_plans c.judge.result c.judge.ensures.fault e),
  λ wrong. absurd (wrong c.in_ok-ended.ensures.right),
)

pub returns-clause-fault : goal.returns-clause-fault
returns-clause-fault c = IfErr-weaker c.judge.result _ _ (λ fault is. inr is) c.judge.ensures.fault
