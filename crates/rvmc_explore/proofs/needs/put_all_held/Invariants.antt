use Rattle.std.proofs.Common.{◌≡◌, ◌++◌, take}
use Rattle.std.specs.List.{flat_map}
use Rattle.rvmc_explore.specs.Needs.{held_text}
use Rattle.rvmc_explore.proofs.needs.put_all_held.Given as goal

-- those so far
abbrev pub invariant-loop-rank : goal.invariant-loop-rank
invariant-loop-rank l =
    l.text.items ≡ l.fn.text.items ++ flat_map (held_text l.image l.state) (take l.rank-index l.ranks)
