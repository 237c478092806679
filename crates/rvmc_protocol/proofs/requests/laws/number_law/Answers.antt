use Rattle.rvmc_protocol.proofs.Numbers as numbers
use Rattle.rvmc_protocol.proofs.requests.laws.number_law.Goals as goal

pub returns : goal.returns
returns c = numbers.again
