use Rattle.rvmc_starts.proofs.ReadBack.{read_once}
use Rattle.rvmc_starts.proofs.laws.parts_read_once.Goals as goal

pub returns : goal.returns
returns c = read_once
