use Rattle.test_cluster.proofs.Planning.{round_and_round}
use Rattle.test_cluster.proofs.run.plans_go_round.Goals as goal

pub returns : goal.returns
returns c = round_and_round
