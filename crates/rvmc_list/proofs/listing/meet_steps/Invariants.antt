use Rattle.std.proofs.Common.{◌≤◌}
use Rattle.rvmc_list.specs.Meeting.{IsCountedTo}
use Rattle.rvmc_list.proofs.listing.meet_steps.Given as goal

-- the steps so far are done
abbrev pub invariant-loop-n : goal.invariant-loop-n
invariant-loop-n l = record { counted : IsCountedTo l.image l.steps l.n l.state l.phases; most : l.n ≤ l.to }
