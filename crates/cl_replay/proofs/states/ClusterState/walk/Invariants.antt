use Rattle.std.proofs.Common.{◌≤◌, ◌-◌}
use Rattle.cl_replay.specs.Walking.{LeadsOn}
use Rattle.cl_replay.proofs.states.ClusterState.walk.Given as goal

abbrev pub invariant-loop-n : goal.invariant-loop-n
invariant-loop-n l = LeadsOn l.steps l.from l.fn.self l.n l.self × (l.n ≤ l.to)

abbrev pub decreases-loop-n : goal.decreases-loop-n
decreases-loop-n l = l.to - l.n
