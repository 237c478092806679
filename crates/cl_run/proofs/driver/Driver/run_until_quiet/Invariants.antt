use Rattle.cl_run.specs.Driver.{left}
use Rattle.cl_run.specs.Going.{GoesRounds}
use Rattle.cl_run.proofs.driver.Driver.run_until_quiet.Given as goal

abbrev pub invariant-loop-turns : goal.invariant-loop-turns
invariant-loop-turns l = GoesRounds l.order l.initial.self l.self

abbrev pub decreases-loop-turns : goal.decreases-loop-turns
decreases-loop-turns l = left l.self
