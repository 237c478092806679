use Rattle.rvmc_explore.specs.Marks.{IsMarkedAlone}
use Rattle.rvmc_explore.proofs.alone.last_alone.Given as goal

abbrev pub invariant-loop-step : goal.invariant-loop-step
invariant-loop-step l = IsMarkedAlone l.all l.others l.node
