use Rattle.std.proofs.Common.{◌≡◌, ◌++◌, take}
use Rattle.std.specs.List.{flat_map}
use Rattle.rvmc_sights.specs.Gave.{met_if_any}
use Rattle.rvmc_sights.proofs.gave.put_gots.Given as goal

-- those so far
abbrev pub invariant-loop-got : goal.invariant-loop-got
invariant-loop-got l = l.text.items ≡ l.fn.text.items ++ flat_map met_if_any (take l.got-index l.gots)
