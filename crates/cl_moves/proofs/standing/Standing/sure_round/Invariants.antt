use Rattle.cl_moves.specs.Sure.{GoesSurely}
use Rattle.cl_moves.proofs.standing.Standing.sure_round.Given as goal

abbrev pub invariant-loop-rank : goal.invariant-loop-rank
invariant-loop-rank l = GoesSurely l.order l.fn.self l.self
