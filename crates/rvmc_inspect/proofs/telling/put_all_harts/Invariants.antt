use Rattle.std.proofs.Common.{◌≡◌, ◌++◌, drop}
use Rattle.rvmc_inspect.specs.Why.{all_harts_text, ranks_from}
use Rattle.rvmc_inspect.proofs.telling.put_all_harts.Given as goal

-- the lines so far, and those of the ranks that are left
abbrev pub invariant-loop-rank : goal.invariant-loop-rank
invariant-loop-rank l =
    l.fn.text.items ++ all_harts_text l.framed l.image l.state
    ≡ l.text.items ++ ranks_from l.framed l.image.symbols l.state.hub l.state.boxes.items l.rank (drop l.rank l.state.ranks.items)
