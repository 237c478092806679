use Rattle.cl_explore.proofs.Following.{NamedSoFar}
use Rattle.cl_explore.proofs.orders.turns_in.Given as goal

abbrev pub invariant-loop-step : goal.invariant-loop-step
invariant-loop-step l = NamedSoFar l.fn.steps l.step-index l.turns.items
