use Rattle.std.proofs.lemmas.Result.{on_ok_weaker}
use Rattle.cl_replay.proofs.ByKind.{weaker_err}
use Rattle.cl_replay.proofs.Same.{same_fault, same_leads, same_twice}
use Rattle.cl_replay.proofs.states.ClusterState.step.Goals as goal

pub returns-then-step_at_once-clause-leads : goal.returns-then-step_at_once-clause-leads
returns-then-step_at_once-clause-leads c = c.step_at_once.ensures.leads c.if-step_at_once.true

pub returns-clause-leads : goal.returns-clause-leads
returns-clause-leads c =
    on_ok_weaker c.step_any.result (same_leads c.args.self.now c.step_at_once.new.self c.step_any.new.self c.args.step.now
    (c.step_at_once.ensures.same c.if-step_at_once.false)) c.step_any.ensures.leads

pub returns-clause-fault : goal.returns-clause-fault
returns-clause-fault c =
    weaker_err c.step_any.result _ _ c.step_any.ensures.fault (same_fault c.args.self.now c.step_at_once.new.self c.args.step.now
    (c.step_at_once.ensures.same c.if-step_at_once.false))

pub returns-clause-same : goal.returns-clause-same
returns-clause-same c = λ refused.
    same_twice c.args.self.now c.step_at_once.new.self c.step_any.new.self (c.step_at_once.ensures.same c.if-step_at_once.false)
    (c.step_any.ensures.same refused)
