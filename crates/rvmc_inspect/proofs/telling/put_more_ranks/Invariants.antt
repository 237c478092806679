use Rattle.std.proofs.Common.{◌≡◌, ◌++◌, take}
use Rattle.rvmc_inspect.specs.Why.{more_ranks}
use Rattle.rvmc_inspect.proofs.telling.put_more_ranks.Given as goal

-- those so far
abbrev pub invariant-loop-rank : goal.invariant-loop-rank
invariant-loop-rank l = l.text.items ≡ l.fn.text.items ++ more_ranks (take l.rank-index l.ranks)
