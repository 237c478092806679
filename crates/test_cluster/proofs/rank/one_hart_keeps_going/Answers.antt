use Rattle.test_cluster.proofs.Turning.{stopped_rows}
use Rattle.test_cluster.proofs.rank.one_hart_keeps_going.Goals as goal

pub returns : goal.returns
returns c = stopped_rows
