use Rattle.test_cluster.proofs.Turning.{replied}
use Rattle.test_cluster.proofs.rank.a_locked_hub_replies.Goals as goal

pub returns : goal.returns
returns g c = replied c.args.rank c.args.hart c.args.clock c.args.request c.call.result c.call.ensures.gives
