use Rattle.cl_moves.specs.Ahead.{GoesAhead}
use Rattle.cl_moves.proofs.standing.Standing.settle.Given as goal

abbrev pub invariant-loop-rank : goal.invariant-loop-rank
invariant-loop-rank l = GoesAhead l.order l.fn.self l.self
