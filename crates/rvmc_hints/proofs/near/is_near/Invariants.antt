-- How the loop stands before each turn: the bytes before this one are the same in both.
use Rattle.std.proofs.Common.{◌≡◌, length}
use Rattle.rvmc_hints.specs.Near.{is_near}
use Rattle.rvmc_hints.proofs.near.is_near.Given as goal

abbrev pub invariant-loop-a : goal.invariant-loop-a
invariant-loop-a l = is_near l.ones l.others ≡ is_near l.one l.other

abbrev pub decreases-loop-a : goal.decreases-loop-a
decreases-loop-a l = length l.ones
