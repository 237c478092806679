use Rattle.test_cluster.proofs.Planning.{limits}
use Rattle.test_cluster.proofs.run.the_limits_are_taken.Goals as goal

pub returns : goal.returns
returns c =
    let at = c.requires.plans in
    c.are_plans.ensures.1 (limits c.args.image.now c.args.plans.now at.0 c.requires.one c.requires.hart at.1 at.2 at.3)
