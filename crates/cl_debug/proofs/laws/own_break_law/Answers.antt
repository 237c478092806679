use Rattle.cl_debug.proofs.OneStop.{own_break}
use Rattle.cl_debug.proofs.laws.own_break_law.Goals as goal

pub returns : goal.returns
returns c = own_break
