use Rattle.std.proofs.Common.{ℕ, List, ap, arith, length}
use Rattle.test_cluster.proofs.Planning.{plan_at, refused}
use Rattle.test_cluster.proofs.run.a_plan_of_no_hart_is_refused.Goals as goal

pub returns : goal.returns
returns c = refused c.are_plans.result
    (λ yes. let at = c.requires in
    absurd (omega (
      arith,
      ap (λ (xs : List ℕ). length xs) at.3,
      (plan_at c.args.image.now c.args.plans.now c.args.order.now
          (c.are_plans.ensures.0 yes) at.0 at.1 at.2).is_order.named,
    )))
