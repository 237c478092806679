-- How the loop over the list stands before each turn: the numbers before this one are below the count.
use Rattle.std.proofs.Common.{◌≡◌, length}
use Rattle.rvmc_hints.specs.Plans.{names_beyond}
use Rattle.rvmc_hints.proofs.plans.names_beyond.Given as goal

abbrev pub invariant-loop-number : goal.invariant-loop-number
invariant-loop-number l = names_beyond l.count l.rest ≡ names_beyond l.count l.list

abbrev pub decreases-loop-number : goal.decreases-loop-number
decreases-loop-number l = length l.rest
