use Rattle.cl_debug.proofs.OneStop.{one_stop}
use Rattle.cl_debug.proofs.laws.one_stop_law.Goals as goal

pub returns : goal.returns
returns c = one_stop
