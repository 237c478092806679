use Rattle.std.proofs.Common.{◌≡◌, take}
use Rattle.std.specs.Prelude.{map}
use Rattle.cl_state.specs.Room.{rank_of}
use Rattle.cl_replay.proofs.kept.keep_each.Given as goal

-- the ranks so far are kept
abbrev pub invariant-loop-n : goal.invariant-loop-n
invariant-loop-n l = l.kept.items ≡ map rank_of (take l.n l.ranks)
