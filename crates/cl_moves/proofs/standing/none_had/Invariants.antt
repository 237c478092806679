use Rattle.std.proofs.Common.{◌≡◌, replicate}
use Rattle.cl_moves.proofs.standing.none_had.Given as goal

abbrev pub invariant-loop-rank : goal.invariant-loop-rank
invariant-loop-rank l = l.had.items ≡ replicate l._rank 0
