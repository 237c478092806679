-- How the loop stands before each turn: the numbers from this one on are named.
use Rattle.std.proofs.Common.{◌≡◌}
use Rattle.rvmc_hints.specs.Plans.{names_each}
use Rattle.rvmc_hints.proofs.plans.names_each.Given as goal

abbrev pub invariant-loop-left : goal.invariant-loop-left
invariant-loop-left l = names_each l.left l.list ≡ names_each l.count l.list

abbrev pub decreases-loop-left : goal.decreases-loop-left
decreases-loop-left l = l.left
