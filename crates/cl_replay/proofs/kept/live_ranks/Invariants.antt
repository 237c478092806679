use Rattle.std.proofs.Common.{◌≡◌, take}
use Rattle.std.specs.Prelude.{map}
use Rattle.cl_state.specs.Room.{rank_of}
use Rattle.cl_replay.proofs.kept.live_ranks.Given as goal

-- the ranks so far are those that are kept
abbrev pub invariant-loop-rank : goal.invariant-loop-rank
invariant-loop-rank l = map rank_of l.ranks.items ≡ take l.rank-index l.kept
