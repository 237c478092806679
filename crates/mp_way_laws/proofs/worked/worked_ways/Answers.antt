use Rattle.mp_way_laws.proofs.Rows as source
use Rattle.mp_way_laws.proofs.worked.worked_ways.Goals as goal

pub returns : goal.returns
returns c = source.worked_ways
