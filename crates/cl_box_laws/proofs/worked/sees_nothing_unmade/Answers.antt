use Rattle.cl_box_laws.proofs.Cases as source
use Rattle.cl_box_laws.proofs.worked.sees_nothing_unmade.Goals as goal

pub returns : goal.returns
returns c = source.unmade
