use Rattle.std.proofs.Common.{◌≡◌, take}
use Rattle.rvmc_inspect.specs.Why.{live_ranks}
use Rattle.rvmc_inspect.proofs.telling.live_ranks.Given as goal

-- those so far
abbrev pub invariant-loop-rank : goal.invariant-loop-rank
invariant-loop-rank l = l.live.items ≡ live_ranks l.state (take l.rank-index l.ranks)
