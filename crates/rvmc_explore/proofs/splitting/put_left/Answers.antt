use Rattle.rvmc_explore.proofs.EachStart.{one_left_more}
use Rattle.rvmc_explore.proofs.splitting.put_left.Goals as goal

pub loop-node-preserved : goal.loop-node-preserved
loop-node-preserved c =
    one_left_more c.args.nodes c.args.left c.loop-node.node c.args.numbers.now.items c.loop-node.numbers.items
    c.push.new.self.items c.loop-node-test.true c.in_ok-push.ensures.items c.loop-node.invariant
