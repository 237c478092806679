use Rattle.cl_stamp_laws.proofs.Joinings as source
use Rattle.cl_stamp_laws.proofs.laws.joined_law.Goals as goal

pub returns : goal.returns
returns c = source.joined
