use Rattle.test_cluster.proofs.Orders.{used_ok}
use Rattle.test_cluster.proofs.run.budgets_are_used.Goals as goal

pub returns : goal.returns
returns c = used_ok c.args.image.now c.args.plans.now c.args.order.now c.run_one.result c.run_one.ensures.run
