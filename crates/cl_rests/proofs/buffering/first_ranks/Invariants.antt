use Rattle.std.proofs.Common.{◌≡◌}
use Rattle.cl_state.specs.Rank.{below}
use Rattle.cl_rests.proofs.buffering.first_ranks.Given as goal

abbrev pub invariant-loop-rank : goal.invariant-loop-rank
invariant-loop-rank l = l.ranks.items ≡ below l.rank
