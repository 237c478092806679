use Rattle.rvmc_stats.specs.Hottest.{IsNextBelow}
use Rattle.rvmc_stats.proofs.hottest.next_hottest.Given as goal

-- the first of the places so far
abbrev pub invariant-loop-place : goal.invariant-loop-place
invariant-loop-place l = IsNextBelow l.tally l.last l.place l.found
