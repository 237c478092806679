use Rattle.rvmc_stats.proofs.Witnesses.{whole_message}
use Rattle.rvmc_stats.proofs.laws.whole_message_law.Goals as goal

pub returns : goal.returns
returns c = whole_message
