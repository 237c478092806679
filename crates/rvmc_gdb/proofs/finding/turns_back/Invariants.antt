use Rattle.std.proofs.Common.{◌≡◌}
use Rattle.rvmc_gdb.specs.Finding.{turns_back}
use Rattle.rvmc_gdb.proofs.finding.turns_back.Given as goal

-- what is left of the way back
abbrev pub invariant-loop-left : goal.invariant-loop-left
invariant-loop-left l = turns_back l.count l.steps l.who l.here ≡ turns_back l.left l.steps l.who l.place

abbrev pub decreases-loop-left : goal.decreases-loop-left
decreases-loop-left l = l.place
