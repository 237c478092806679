use Rattle.std.proofs.Common.{arith}
use Rattle.test_cluster.proofs.Planning.{plan_at, refused}
use Rattle.test_cluster.proofs.run.no_turns_are_refused.Goals as goal

pub returns : goal.returns
returns c = refused c.are_plans.result
    (λ yes. let at = c.requires in
    absurd (omega (
      arith,
      at.3,
      (plan_at c.args.image.now c.args.plans.now c.args.order.now
          (c.are_plans.ensures.0 yes) at.0 at.1 at.2).least_budget,
    )))
