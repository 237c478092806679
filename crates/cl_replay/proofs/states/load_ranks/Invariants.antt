use Rattle.std.proofs.Common.{◌≡◌}
use Rattle.std.specs.Prelude.{map}
use Rattle.cl_state.specs.Rank.{below, loaded}
use Rattle.cl_state.specs.Room.{rank_of}
use Rattle.cl_replay.proofs.states.load_ranks.Given as goal

abbrev pub invariant-loop-rank : goal.invariant-loop-rank
invariant-loop-rank l = map rank_of l.ranks.items ≡ map (loaded l.image) (below l.rank)
