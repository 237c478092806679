use Rattle.rvmc_explore.proofs.EachStart.{LeftSoFar}
use Rattle.rvmc_explore.proofs.splitting.put_left.Given as goal

abbrev pub invariant-loop-node : goal.invariant-loop-node
invariant-loop-node l = LeftSoFar l.nodes l.left l.node l.fn.numbers.items l.numbers.items
