use Rattle.cl_run.specs.Going.{GoesRounds}
use Rattle.cl_run.proofs.driver.Driver.rounds.Given as goal

abbrev pub invariant-loop-round : goal.invariant-loop-round
invariant-loop-round l = GoesRounds l.order l.initial.self l.self
