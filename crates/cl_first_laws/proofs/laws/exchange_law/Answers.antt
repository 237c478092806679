use Rattle.cl_first_laws.proofs.Exchanges as source
use Rattle.cl_first_laws.proofs.laws.exchange_law.Goals as goal

pub returns : goal.returns
returns c = source.exchange_law
