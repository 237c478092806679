use Rattle.std.proofs.Common.{◌-◌, ◌≡◌, ◌++◌, reverse}
use Rattle.cl_explore.specs.Runs.{later}
use Rattle.cl_explore.proofs.runs.unwind.Given as goal

-- the turns at the later stamps are wound off
abbrev pub invariant-loop-stamp : goal.invariant-loop-stamp
invariant-loop-stamp l =
    l.back.items ++ reverse (later l.run.turn (l.stamp - l.first))
    ≡ l.fn.back.items ++ reverse (later l.run.turn (l.run.last - l.first))

abbrev pub decreases-loop-stamp : goal.decreases-loop-stamp
decreases-loop-stamp l = l.stamp - l.first
