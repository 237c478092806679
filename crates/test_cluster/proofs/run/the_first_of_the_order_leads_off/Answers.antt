use Rattle.test_cluster.proofs.Orders.{led_off_ok}
use Rattle.test_cluster.proofs.run.the_first_of_the_order_leads_off.Goals as goal

pub returns : goal.returns
returns c = led_off_ok c.args.image.now c.args.plans.now c.args.order.now c.run_one.result c.requires c.run_one.ensures.run
