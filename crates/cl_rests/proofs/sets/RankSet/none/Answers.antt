use Rattle.cl_rests.proofs.Members.{none_in}
use Rattle.cl_rests.proofs.sets.RankSet.none.Goals as goal

pub returns : goal.returns
returns c = none_in
