use Rattle.cl_moves.specs.Ahead.{GoesAhead}
use Rattle.cl_moves.specs.Cycles.{kept_in}
use Rattle.cl_moves.proofs.Watched.{LeavesTrail}
use Rattle.cl_moves.proofs.standing.Standing.go_ahead.Given as goal

-- the rank went ahead, and is some turns beyond what is kept of it
abbrev pub invariant-loop-turn : goal.invariant-loop-turn
invariant-loop-turn l = record {
  ahead : GoesAhead l.order l.fn.self l.self;
  trail : LeavesTrail l.order l.order l.rank 0 l.fn.self l.self (kept_in l.watch);
}
