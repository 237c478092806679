use Rattle.std.proofs.Common.{◌≡◌, drop}
use Rattle.rvmc_gdb.specs.Ends.{earlier, nearest}
use Rattle.rvmc_gdb.proofs.ends.nearest.Given as goal

-- the earliest so far, and what is left
abbrev pub invariant-loop-arrow : goal.invariant-loop-arrow
invariant-loop-arrow l =
    nearest l.side l.who l.from l.arrows
    ≡ earlier l.found (nearest l.side l.who l.from (drop l.arrow-index l.arrows))
