-- How the loop over the list stands before each turn: the numbers before this one are others.
use Rattle.std.proofs.Common.{◌≡◌, length}
use Rattle.rvmc_hints.specs.Plans.{names}
use Rattle.rvmc_hints.proofs.plans.names.Given as goal

abbrev pub invariant-loop-other : goal.invariant-loop-other
invariant-loop-other l = names l.number l.rest ≡ names l.number l.list

abbrev pub decreases-loop-other : goal.decreases-loop-other
decreases-loop-other l = length l.rest
