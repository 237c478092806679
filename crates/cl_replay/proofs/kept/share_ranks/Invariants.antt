use Rattle.std.proofs.Common.{◌≡◌, take}
use Rattle.cl_replay.proofs.kept.share_ranks.Given as goal

-- the ranks so far are those that are kept
abbrev pub invariant-loop-rank : goal.invariant-loop-rank
invariant-loop-rank l = l.shared.items ≡ take l.rank-index l.kept
