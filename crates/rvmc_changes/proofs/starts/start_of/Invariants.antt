use Rattle.std.proofs.Common.{◌≡◌, take}
use Rattle.std.specs.Prelude.{map}
use Rattle.cl_state.specs.Room.{rank_of}
use Rattle.rvmc_changes.specs.Seen.{seen_rank}
use Rattle.rvmc_changes.specs.Walks.{rank_at_start}
use Rattle.rvmc_changes.proofs.starts.start_of.Given as goal

-- those of the ranks before this one
abbrev pub invariant-loop-rank : goal.invariant-loop-rank
invariant-loop-rank l = map rank_at_start l.starts.items ≡ map seen_rank (map rank_of (take l.rank-index l.state.ranks.items))
