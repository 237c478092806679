use Rattle.cl_rests.proofs.Members.{empty_both}
use Rattle.cl_rests.proofs.sets.RankSet.is_empty.Goals as goal

pub returns : goal.returns
returns c = empty_both c.self.inside.0 c.args.self c.self.view_is c.self.invariant
