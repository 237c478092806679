use Rattle.cl_moves.specs.Sure.{GoesSurely}
use Rattle.cl_moves.proofs.standing.Standing.go_surely.Given as goal

abbrev pub invariant-loop-round : goal.invariant-loop-round
invariant-loop-round l = GoesSurely l.order l.fn.self l.self
