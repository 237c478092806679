use Rattle.test_cluster.proofs.Planning.{refused}
use Rattle.test_cluster.proofs.run.each_rank_has_a_plan.Goals as goal

pub returns : goal.returns
returns c = refused c.are_plans.result (λ yes. c.requires (c.are_plans.ensures.0 yes).planned.one_each)
