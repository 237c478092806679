use Rattle.cl_stamp_laws.proofs.Merges as source
use Rattle.cl_stamp_laws.proofs.laws.merge_exists_law.Goals as goal

pub returns : goal.returns
returns c = source.merge_exists
