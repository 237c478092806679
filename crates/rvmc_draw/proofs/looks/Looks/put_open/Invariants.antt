use Rattle.std.proofs.Common.{◌≡◌, ◌++◌, take}
use Rattle.std.specs.List.{flat_map}
use Rattle.rvmc_draw.specs.Looks.{open_to}
use Rattle.rvmc_draw.proofs.looks.Looks.put_open.Given as goal

-- those so far
abbrev pub invariant-loop-begun : goal.invariant-loop-begun
invariant-loop-begun l = l.bars.items ≡ l.fn.bars.items ++ flat_map (open_to l.end) (take l.begun-index l.begun-items)
