use Rattle.cl_contests.proofs.Waiting.{AreWaitsBelow}
use Rattle.cl_contests.proofs.patterns.Patterns.only_wait.Given as goal

-- the patterns before this one are of ranks that only wait for named ranks
abbrev pub invariant-loop-asked : goal.invariant-loop-asked
invariant-loop-asked l = AreWaitsBelow l.self.kept.items l.asked-index
