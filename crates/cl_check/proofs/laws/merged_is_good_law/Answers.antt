use Rattle.cl_check.proofs.Verdicts as proof
use Rattle.cl_check.proofs.laws.merged_is_good_law.Goals as goal

pub returns : goal.returns
returns c = proof.merged_is_good
