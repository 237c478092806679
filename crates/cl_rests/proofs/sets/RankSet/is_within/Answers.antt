use Rattle.cl_rests.proofs.Members.{within_both}
use Rattle.cl_rests.proofs.sets.RankSet.is_within.Goals as goal

pub returns : goal.returns
returns c = within_both c.self.inside.0 c.other.inside.0 c.args.self c.args.other c.self.view_is c.other.view_is c.self.invariant
