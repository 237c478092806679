use Rattle.cl_stamp_laws.proofs.Reorders as source
use Rattle.cl_stamp_laws.proofs.laws.merged_law.Goals as goal

pub returns : goal.returns
returns c = source.merged
