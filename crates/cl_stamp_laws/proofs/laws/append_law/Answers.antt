use Rattle.cl_stamp_laws.proofs.Appends as source
use Rattle.cl_stamp_laws.proofs.laws.append_law.Goals as goal

pub returns : goal.returns
returns c = source.append
