use Rattle.std.proofs.Common.{◌≡◌, ◌++◌, drop}
use Rattle.rvmc_explore.specs.Ends.{end_ranks_from, end_ranks_text}
use Rattle.rvmc_explore.proofs.ends.put_ranks.Given as goal

-- the text so far, and that of the ranks that are left
abbrev pub invariant-loop-rank : goal.invariant-loop-rank
invariant-loop-rank l =
    l.fn.text.items ++ end_ranks_text l.order l.ranks
    ≡ l.text.items ++ end_ranks_from l.order l.rank (drop l.rank l.ranks)
