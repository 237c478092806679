use Rattle.test_cluster.proofs.Planning.{of_each}
use Rattle.test_cluster.proofs.run.what_is_loaded_runs.Goals as goal

pub returns : goal.returns
returns c = of_each c.args.loaded.image c.args.loaded.plans c.args.loaded.order c.run.result c.run.ensures.plans
    c.run.ensures.run
