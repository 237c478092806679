use Rattle.std.proofs.Common.{◌≡◌, ◌++◌, drop}
use Rattle.rvmc_explore.specs.HangTexts.{ranks_going}
use Rattle.rvmc_explore.proofs.going.put_ranks.Given as goal

-- the text so far, and the lines of the ranks that are left
abbrev pub invariant-loop-rank : goal.invariant-loop-rank
invariant-loop-rank l =
    l.fn.text.items ++ ranks_going l.symbols l.order 0 l.ranks
    ≡ l.text.items ++ ranks_going l.symbols l.order l.rank (drop l.rank l.ranks)
