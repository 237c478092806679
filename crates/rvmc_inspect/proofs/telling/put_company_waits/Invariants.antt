use Rattle.std.proofs.Common.{◌≡◌, ◌++◌, take}
use Rattle.rvmc_inspect.specs.Why.{company_waits_text}
use Rattle.rvmc_inspect.proofs.telling.put_company_waits.Given as goal

-- those so far
abbrev pub invariant-loop-rank : goal.invariant-loop-rank
invariant-loop-rank l =
    l.text.items ≡ l.fn.text.items ++ company_waits_text l.image l.state (take l.rank-index l.ranks)
