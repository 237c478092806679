use Rattle.test_cluster.proofs.Planning.{refused}
use Rattle.test_cluster.proofs.run.a_missed_rank_is_refused.Goals as goal

pub returns : goal.returns
returns c = refused c.are_plans.result
    (λ yes. let at = c.requires in at.2 ((c.are_plans.ensures.0 yes).misses_none at.0 at.1))
