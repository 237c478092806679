use Rattle.cl_deeds.proofs.Alone as alone
use Rattle.cl_deeds.proofs.laws.one_rank_law.Goals as goal

pub returns : goal.returns
returns c = alone.one_rank
