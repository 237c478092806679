use Rattle.std.proofs.Common.{◌≡◌, take}
use Rattle.std.specs.Prelude.{map}
use Rattle.cl_state.specs.Room.{rank_of}
use Rattle.cl_replay.proofs.states.copy_ranks.Given as goal

-- the copies so far are those of the ranks before this one
abbrev pub invariant-loop-rank : goal.invariant-loop-rank
invariant-loop-rank l = map rank_of l.copies.items ≡ map rank_of (take l.rank-index l.ranks)
