use Rattle.test_cluster.proofs.Planning.{of_each_ok}
use Rattle.test_cluster.proofs.run.a_run_leaves_each_rank.Goals as goal

pub returns : goal.returns
returns c = of_each_ok c.args.image.now c.args.plans.now c.args.order.now c.run_one.result c.run_one.ensures.right
    c.run_one.ensures.run
