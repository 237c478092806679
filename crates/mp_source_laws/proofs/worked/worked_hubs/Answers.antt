use Rattle.mp_source_laws.proofs.Rows as source
use Rattle.mp_source_laws.proofs.worked.worked_hubs.Goals as goal

pub returns : goal.returns
returns c = source.worked_hubs
