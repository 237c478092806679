use Rattle.rvmc_starts.proofs.StartBack.{start_back}
use Rattle.rvmc_starts.proofs.laws.starts_read_back.Goals as goal

pub returns : goal.returns
returns c = start_back
