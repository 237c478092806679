use Rattle.cl_debug.proofs.Stopping.{RanTo}
use Rattle.cl_debug.proofs.breaks.run_on.Given as goal

abbrev pub invariant-loop-n : goal.invariant-loop-n
invariant-loop-n l = RanTo l.steps l.breaks l.from l.fn.state l.n l.state
