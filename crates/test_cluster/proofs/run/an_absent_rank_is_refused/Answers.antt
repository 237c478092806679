use Rattle.std.proofs.Common.{◌<◌, arith}
use Rattle.std.proofs.lemmas.List.Elements.{All-contains}
use Rattle.test_cluster.proofs.Planning.{refused}
use Rattle.test_cluster.proofs.run.an_absent_rank_is_refused.Goals as goal

pub returns : goal.returns
returns c = refused c.are_plans.result
    (λ yes. absurd
    (omega (
      arith,
      All-contains (λ n. n < c.args.image.now.ranks) c.args.order.now c.args.image.now.ranks
          (c.are_plans.ensures.0 yes).is_order.there c.requires,
    )))
