use Rattle.mp_clash_laws.proofs.Rows as source
use Rattle.mp_clash_laws.proofs.worked.worked_clashes.Goals as goal

pub returns : goal.returns
returns c = source.worked_clashes
