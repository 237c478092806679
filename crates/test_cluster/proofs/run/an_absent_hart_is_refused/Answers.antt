use Rattle.test_cluster.proofs.Planning.{no_absent_hart, refused}
use Rattle.test_cluster.proofs.run.an_absent_hart_is_refused.Goals as goal

pub returns : goal.returns
returns c = refused c.are_plans.result
    (λ yes. let at = c.requires in
    no_absent_hart c.args.image.now c.args.plans.now c.args.order.now (c.are_plans.ensures.0 yes) at.0 at.1 at.2 at.3)
